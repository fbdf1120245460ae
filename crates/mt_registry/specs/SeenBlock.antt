-- What contracts see of keywords and blocks.
use Rattle.std.specs.Prelude.{Option, option_map}
use Rattle.mt_file_spec.specs.RegistryFile.{Keyword, Attribute, Structure, Dynamic, FromAttr, WsAttr, Block, Ignored, OfAttribute, OfStructure, Other, Effect}
use Rattle.mt_registry.specs.declared.block.Keyword.{Keyword as RustKeyword}
use Rattle.mt_registry.specs.declared.block.Keyword.TheVariants as keyword
use Rattle.mt_registry.specs.declared.block.Block.{Block as RustBlock}
use Rattle.mt_registry.specs.declared.block.Block.TheVariants as block
use Rattle.mt_registry.specs.declared.block.Effect.{Effect as RustEffect}

abbrev pub keyword_seen : RustKeyword → Keyword
keyword_seen keyword.Attribute = Attribute
keyword_seen keyword.Structure = Structure
keyword_seen keyword.Dynamic = Dynamic
keyword_seen keyword.FromAttr = FromAttr
keyword_seen keyword.WsAttr = WsAttr

abbrev pub keyword_option_seen : Option RustKeyword → Option Keyword
keyword_option_seen seen = option_map keyword_seen seen

abbrev pub block_seen : RustBlock → Block
block_seen block.Ignored = Ignored
block_seen (block.OfAttribute line) = OfAttribute line
block_seen (block.OfStructure line) = OfStructure line
block_seen block.Other = Other

abbrev pub effect_seen : RustEffect → Effect
effect_seen effect = record { keyword = keyword_seen effect.keyword; place = effect.place; block = block_seen effect.block }
