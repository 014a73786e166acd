-- The memory and the ledger: their sizes, their words, and how they are stored (RULES: memory, ledger).
use Rattle.std.specs.Prelude.{Bool, cond, ◌||◌, List, ℕ, zero, suc, ◌+◌, ◌-◌, ◌*◌, ◌/◌, ◌%◌, ◌^◌, eqb, length}
use Rattle.words.specs.Bounded.{above, neqb, any}
use Rattle.words.specs.Lists.{part}
use Rattle.words.specs.Words.{half, word, put_word}
pub use Rattle.signature.specs.Signed.{block_bytes}

-- memory 1, memory 4: the words of a block
abbrev pub block_words : ℕ
block_words = 1024

-- memory 1: the fewest blocks
abbrev pub least_blocks : ℕ
least_blocks = 8

-- memory 1: the most blocks
abbrev pub most_blocks : ℕ
most_blocks = 4096

-- memory 2: B is a multiple of this
abbrev pub base_alignment : ℕ
base_alignment = 256

-- memory 2: B + n is at most this
abbrev pub physical_blocks : ℕ
physical_blocks = 2 ^ 20

-- ledger 11: the memory kinds of a ledger
abbrev pub kind_count : ℕ
kind_count = 8

-- ledger 11: their bytes
abbrev pub kinds_bytes : ℕ
kinds_bytes = 2 * kind_count

-- ledger 11: where in the ledger they stand
abbrev pub kinds_place : ℕ
kinds_place = 8

-- ledger 12: the greatest lawful kind, with bits 0 to 6 set
abbrev pub greatest_kind : ℕ
greatest_kind = 2 ^ 7 - 1

-- ledger 1: the bytes of the head
abbrev pub ledger_head_bytes : ℕ
ledger_head_bytes = kinds_place + kinds_bytes

-- ledger 1: the words of a record
abbrev pub record_words : ℕ
record_words = 5

-- ledger 1: the bytes of a record
abbrev pub ledger_record_bytes : ℕ
ledger_record_bytes = 4 * record_words

-- ledger 2: the active word when no table is in use
abbrev pub no_table : ℕ
no_table = 0xFFFFFFFF

-- ledger 8: the limit of a counter
abbrev pub counter_limit : ℕ
counter_limit = 2 ^ 22

-- calls 1: the bytes of the two buffers that every call but acknowledge is lent
pub record Store : Type 0 where
  pub memory : List ℕ
  pub ledger : List ℕ

-- calls 1: the store of a call's two buffers
abbrev pub lent : List ℕ → List ℕ → Store
lent memory ledger = record { memory = memory; ledger = ledger }

-- memory 1: n, by the memory's length alone
abbrev pub blocks : Store → ℕ
blocks s = length s.memory / block_bytes

-- ledger 2: where in the ledger B stands
abbrev pub base_place : ℕ
base_place = 0

-- ledger 2: where in the ledger active stands
abbrev pub active_place : ℕ
active_place = 4

-- ledger 2: B, as the ledger has it
abbrev pub base : Store → ℕ
base s = word s.ledger base_place

-- ledger 2: active, as the ledger has it
abbrev pub active : Store → ℕ
active s = word s.ledger active_place

-- ledger 11: the bytes of the kinds that the ledger has
unfoldable pub kinds_of : List ℕ → List ℕ
kinds_of ledger = part ledger kinds_place kinds_bytes

-- ledger 11: kind k of such bytes
unfoldable pub kind_at : List ℕ → ℕ → ℕ
kind_at kinds k = half kinds (2 * k)

-- ledger 12, refusal 1: one of the eight kinds is not lawful
unfoldable pub unlawful_kinds : List ℕ → Bool
unlawful_kinds kinds = any kind_count (λ k. above (kind_at kinds k) greatest_kind)

-- ledger 1, ledger 3: word k of the record of block b, b counted from the region's first
unfoldable pub record_word : List ℕ → ℕ → ℕ → ℕ
record_word ledger k b = word ledger (ledger_head_bytes + ledger_record_bytes * b + 4 * k)

-- ledger 1, ledger 3: the ledger with v stored as that word
unfoldable pub put_record_word : List ℕ → ℕ → ℕ → ℕ → List ℕ
put_record_word ledger k b v = put_word ledger (ledger_head_bytes + ledger_record_bytes * b + 4 * k) v

-- ledger 3: which word of a record the type is
abbrev pub type_word : ℕ
type_word = 0

-- ledger 3: w, x and l
pub data Counter : Type 0 where
  writable : Counter
  executable : Counter
  linked : Counter

-- ledger 3: which words of a record they are
abbrev pub counter_word : Counter → ℕ
counter_word writable = 1
counter_word executable = 2
counter_word linked = 3

-- ledger 3: which word of a record the mark is
abbrev pub mark_word : ℕ
mark_word = 4

-- ledger 9: the mark of a block that is marked
abbrev pub mark_value : ℕ
mark_value = 1

-- create 6, refusal 13: one of the three counters has q
unfoldable pub some_counter : (Counter → Bool) → Bool
some_counter q = q writable || q executable || q linked

-- ledger 3: the type of physical block p; outside the region this says nothing (below B, p - B is 0), and no answer depends on it: 2 comes first, or 10 holds anyway
abbrev pub type_of : Store → ℕ → ℕ
type_of s p = record_word s.ledger type_word (p - base s)

-- ledger 3: w, x or l of physical block p; outside the region this says nothing, as for the type
abbrev pub counter : Counter → Store → ℕ → ℕ
counter c s p = record_word s.ledger (counter_word c) (p - base s)

-- ledger 9: physical block p is marked; outside the region this says nothing, as for the type
abbrev pub marked : Store → ℕ → Bool
marked s p = eqb (record_word s.ledger mark_word (p - base s)) mark_value

-- ledger 3: the ledger in which the m blocks from b on have type t, b counted from the region's first
unfoldable pub retype : List ℕ → ℕ → ℕ → ℕ → List ℕ
retype ledger b zero t = ledger
retype ledger b (suc m) t = put_record_word (retype ledger b m t) type_word (b + m) t

-- ledger 3: the ledger in which block b has the counters f, b counted from the region's first
abbrev pub put_counters : List ℕ → ℕ → (Counter → ℕ) → List ℕ
put_counters ledger b f =
    put_record_word (put_record_word (put_record_word ledger (counter_word writable) b (f writable)) (counter_word executable) b (f executable)) (counter_word linked) b (f linked)

-- ledger 3: the ledger in which the first n blocks have the counters f
unfoldable pub recount : List ℕ → ℕ → (Counter → ℕ → ℕ) → List ℕ
recount ledger zero f = ledger
recount ledger (suc n) f = put_counters (recount ledger n f) n (λ c. f c n)

-- ledger 10: the ledger in which the mark of block b is 0, b counted from the region's first
abbrev pub clear_mark : List ℕ → ℕ → List ℕ
clear_mark ledger b = put_record_word ledger mark_word b 0

-- begin leaves, forget leaves: the ledger in which the marks of the m blocks from b on are 0
unfoldable pub clear_marks : List ℕ → ℕ → ℕ → List ℕ
clear_marks ledger b zero = ledger
clear_marks ledger b (suc m) = clear_mark (clear_marks ledger b m) (b + m)

-- create leaves, map leaves: the ledger in which those of the first n blocks that have q are marked
unfoldable pub mark_blocks : List ℕ → ℕ → (ℕ → Bool) → List ℕ
mark_blocks ledger zero q = ledger
mark_blocks ledger (suc n) q = cond (q n) (put_record_word (mark_blocks ledger n q) mark_word n mark_value) (mark_blocks ledger n q)

-- memory 4: the memory with w 0, w 1, .. stored as its m words from word j on
unfoldable pub fill : List ℕ → ℕ → ℕ → (ℕ → ℕ) → List ℕ
fill memory j zero w = memory
fill memory j (suc m) w = put_word (fill memory j m w) (4 * (j + m)) (w m)

-- memory 3: one of the m blocks from p on, m at least 1, lies outside the region of n blocks from B on
unfoldable pub outside : ℕ → ℕ → ℕ → ℕ → Bool
outside B n p m = above B p || above (p + m) (B + n)

-- memory 3: one of the m physical blocks from p on has q
unfoldable pub some_block : ℕ → ℕ → (ℕ → Bool) → Bool
some_block p m q = any m (λ k. q (p + k))

-- memory 3: one of the region's blocks has q
abbrev pub some_region_block : Store → (ℕ → Bool) → Bool
some_region_block s q = some_block (base s) (blocks s) q

-- refusal 1, memory 1, memory 2, ledger 1: the memory, the ledger's length or this B breaks its rule
unfoldable pub misfit : Store → ℕ → Bool
misfit s B =
    neqb (length s.memory % block_bytes) 0 || above least_blocks (blocks s) || above (blocks s) most_blocks
    || neqb (length s.ledger) (ledger_head_bytes + ledger_record_bytes * blocks s)
    || neqb (B % base_alignment) 0 || above (B + blocks s) physical_blocks

-- refusal 1, ledger 12: so, with the B that the ledger has, or one of its kinds is not lawful
unfoldable pub misfit_stored : Store → Bool
misfit_stored s = misfit s (base s) || unlawful_kinds (kinds_of s.ledger)
