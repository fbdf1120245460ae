use Rattle.std.proofs.Common.{◌*◌, leb, arith, rules}
use Rattle.std.proofs.Math.Nat.{mul-le-mul_left}
use Rattle.std.proofs.lemmas.List.Sorted.{IsPartitionPoint-from_clause, IsPartitionedBy-leb, IsNonDecreasingBy-from_default}
use Rattle.mt_score.proofs.Constants.{rises, in_table, IsLast, IsLast-from_point}
use Rattle.mt_score.specs.declared.dice.TheConstants.{CONSTANTS}
use Rattle.mt_score.proofs.dice.last_within.Goals as goal

is_last : (c : goal.After-partition_point) → IsLast c.args.sum c.args.limit c.partition_point.result
is_last c =
    let s = c.args.sum in
    let limit = c.args.limit in
    let up = IsNonDecreasingBy-from_default (λ x. s * x) CONSTANTS 0 (λ i j low high. mul-le-mul_left s (rises i j _ _ low (in_table i (omega arith)) (in_table j high))) in
    let parted = IsPartitionedBy-leb (λ x. s * x) CONSTANTS limit up in
    let point = IsPartitionPoint-from_clause (λ x. leb (s * x) limit) CONSTANTS c.partition_point.result c.partition_point.ensures.partitioned parted (λ a r q k. search rules) in
    IsLast-from_point s limit c.partition_point.result c.requires.one point

pub overflow_sub-result : goal.overflow_sub-result
overflow_sub-result c = (is_last c).positive

pub returns-clause-within : goal.returns-clause-within
returns-clause-within c = (is_last c).within

pub returns-clause-last : goal.returns-clause-last
returns-clause-last c = (is_last c).last
