-- How numbers are found by the hash of their value: each hash has a bucket, and the numbers of a bucket are chained from the last to the first.
use Rattle.std.specs.Prelude.{ℕ, ◌≡◌, ◌-◌, ◌/◌, ◌^◌, ◌<◌, ◌≤◌, List, length, map, slice_index, bit_and}
use Rattle.std.specs.Hash.FoldHasher.{initial, write, finish}
use Rattle.mt_lexicon.specs.declared.table.Link.{Link}

-- the hash of a value: the upper half of what std's hasher of fixed seed makes of its bytes
unfoldable pub hash_of : List ℕ → ℕ
hash_of value = finish (write initial value) / 2 ^ 32

-- these are the hashes of the values
abbrev pub AreHashed : List (List ℕ) → List ℕ → Type 0
AreHashed values hashes = hashes ≡ map hash_of values

-- the bucket of a hash, among so many
unfoldable pub bucket_of : ℕ → ℕ → ℕ
bucket_of buckets hash = bit_and hash (buckets - 1)

-- of the numbers below `number` that have a property, the last one is right before `below`, and there is none where `below` is 0
pub record IsLast (P : ℕ → Type 0) (number below : ℕ) : Type 0 where
  pub bound : below ≤ number
  pub here : 0 < below → P (below - 1)
  pub none : (k : ℕ) → below ≤ k → k < number → P k → ⊥

-- a number has this hash
abbrev pub HasHash : List ℕ → ℕ → ℕ → Type 0
HasHash hashes hash k = slice_index hashes k ≡ hash

-- a number's hash is in this bucket
abbrev pub IsInBucket : List ℕ → ℕ → ℕ → ℕ → Type 0
IsInBucket hashes buckets bucket k = bucket_of buckets (slice_index hashes k) ≡ bucket

-- the hashes of the numbers, and for each number the end of those before it in its bucket
abbrev pub hashes : List Link → List ℕ
hashes links = map (λ link. link.hash) links

abbrev pub belows : List Link → List ℕ
belows links = map (λ link. link.below) links

-- with so many buckets, every number is in the chain of its bucket, from the bucket's end on, and there are no more numbers than buckets
pub record AreChained (buckets : ℕ) (hashes belows ends : List ℕ) : Type 0 where
  pub count : length ends ≡ buckets
  pub each : length belows ≡ length hashes
  pub ends_are : (bucket : ℕ) → bucket < buckets → IsLast (IsInBucket hashes buckets bucket) (length hashes) (slice_index ends bucket)
  pub belows_are : (k : ℕ) → k < length hashes → IsLast (IsInBucket hashes buckets (bucket_of buckets (slice_index hashes k))) k (slice_index belows k)
  pub room : length hashes ≤ buckets
