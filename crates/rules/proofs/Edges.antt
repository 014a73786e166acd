-- Edges 1 to 3 and 8: at the last value that a bound lets through a call is accepted, since it passes every test; at the next it is refused with the bound's
-- number, since it passes the tests before that one.
use mathlib.Core.Bool.{false}
use mathlib.Core.List.{List, []}
use mathlib.Core.Path.{◌≡◌, refl, ◌∙◌}
use Prim.Native.Nat.{ℕ, zero, suc, ◌+◌, ◌-◌, ◌*◌, ◌/◌, ◌%◌, ◌<◌, ◌≤◌}
use native.Mathlib.Nat.{mod-one}
use native.Mathlib.Omega.{arith}
use lib.ListN.{length, replicate, length-replicate}
use borrow.Author.Tests.{lt-ltb, le-ltb}
use Rattle.words.specs.Lists.{part}
use Rattle.words.specs.Bounded.{any}
use Rattle.words.specs.Words.{word, put_word, half}
use Rattle.words.proofs.Bounded.{same}
use Rattle.signature.specs.Signed.{misfit_image}
use Rattle.entries.specs.Entries.{Level, l1, l2, is_fault}
use Rattle.rules.specs.Refusals.{answer_of}
use Rattle.rules.specs.Store.{block_bytes, least_blocks, most_blocks, ledger_head_bytes, ledger_record_bytes, base_alignment, physical_blocks, Store, blocks, base, type_of, counter, record_word, put_record_word, retype, type_word, executable, misfit, kinds_bytes, kinds_of, kind_at, unlawful_kinds, misfit_stored}
use Rattle.rules.specs.Outcomes.{settle}
use Rattle.rules.specs.Tables.{type_code, table_blocks, sections, pages, larges, takes, Form, level, target_blocks, mapping_words, table_entries}
use Rattle.rules.specs.General.{holder}
use Rattle.rules.specs.Begin.{begin_outcome, cached_kinds}
use Rattle.rules.specs.Map.{map_outcome, first_kind}
use Rattle.rules.specs.Link.{link_outcome}
use Rattle.rules.specs.Unmap.{unmap_outcome}
use Rattle.rules.proofs.Ledger.{length-put_record_word, length-retype}
use Rattle.rules.proofs.Acceptance.{TablePlace, Ready, Vacant, ReadTarget, LinkTarget, map_accepted_lem, map-beyond, map_no_kind, map-misaligned, link_accepted, link_beyond, unmap_fault_accepted, unmap_beyond, unmap_misaligned}
use Rattle.rules.proofs.SmallStores.{zeros, length-zeros, zero_entry}

-- a memory of n blocks with its ledger, at a B that fits
pub record Sized (n B : ℕ) (s : Store) : Type 0 where
  pub memory : length s.memory ≡ block_bytes * n
  pub ledger : length s.ledger ≡ ledger_head_bytes + ledger_record_bytes * n
  pub aligned : B % base_alignment ≡ 0
  pub high : B + n ≤ physical_blocks

module _ {n B : ℕ} {s : Store} (sized : Sized n B s) where
  whole : length s.memory % block_bytes ≡ 0
  whole = let m = sized.memory in omega arith

  count : blocks s ≡ n
  count = let m = sized.memory in omega arith

  few : n ≤ 7 → (begin_outcome s cached_kinds B).answer ≡ 1
  unfolding begin_outcome misfit settle answer_of
  few h = rw (same _ _ whole, lt-ltb (blocks s) least_blocks (omega (arith, count))) refl

  many : 4097 ≤ n → (begin_outcome s cached_kinds B).answer ≡ 1
  unfolding begin_outcome misfit settle answer_of
  many h = rw (same _ _ whole, le-ltb (blocks s) least_blocks (omega (arith, count)), lt-ltb most_blocks (blocks s) (omega (arith, count))) refl

  between : 8 ≤ n → n ≤ 4096 → (begin_outcome s cached_kinds B).answer ≡ 0
  unfolding begin_outcome misfit unlawful_kinds any kind_at half settle answer_of
  between h k =
      let l : length s.ledger ≡ ledger_head_bytes + ledger_record_bytes * blocks s = (let e = sized.ledger in let c = count in omega arith) in
      rw (
        same _ _ whole,
        le-ltb (blocks s) least_blocks (omega (arith, count)),
        le-ltb most_blocks (blocks s) (omega (arith, count)),
        same _ _ l,
        same _ _ sized.aligned,
        le-ltb physical_blocks (B + blocks s) (let b = sized.high in omega (arith, count)),
      )
      refl

-- edges 1: 7 blocks are too few and 8 are taken; 4,096 are taken and 4,097 are too many
pub n_7 : {B : ℕ} {s : Store} → Sized 7 B s → (begin_outcome s cached_kinds B).answer ≡ 1
n_7 z = few z (omega arith)

pub n_8 : {B : ℕ} {s : Store} → Sized 8 B s → (begin_outcome s cached_kinds B).answer ≡ 0
n_8 z = between z (omega arith) (omega arith)

pub n_4096 : {B : ℕ} {s : Store} → Sized 4096 B s → (begin_outcome s cached_kinds B).answer ≡ 0
n_4096 z = between z (omega arith) (omega arith)

pub n_4097 : {B : ℕ} {s : Store} → Sized 4097 B s → (begin_outcome s cached_kinds B).answer ≡ 1
n_4097 z = many z (omega arith)

-- edges 2: index 4,095 of an L1 table is taken, and 4,096 is answered with 4
pub map_4095 : {golden : List ℕ} {s : Store} {p t r kind : ℕ} → Vacant sections s p 4095 → kind < 8 → ReadTarget sections golden s t r → (map_outcome sections golden s p 4095 t r kind).answer ≡ 0
map_4095 {kind = kind} room named target = map_accepted_lem sections 4095 refl kind room (omega arith) named target

pub map_4096 : (golden : List ℕ) {s : Store} {p : ℕ} (t r kind : ℕ) → TablePlace l1 s p → misfit_image golden ≡ false → t % 256 ≡ 0 → (map_outcome sections golden s p 4096 t r kind).answer ≡ 4
map_4096 golden t r kind at image aligned = map-beyond sections 4096 refl golden t r kind at image aligned (omega arith)

pub link_4095 : {s : Store} {p t j : ℕ} → Vacant sections s p 4095 → LinkTarget s t j → (link_outcome s p 4095 t j).answer ≡ 0
link_4095 room target = link_accepted room (omega arith) target

pub link_4096 : {s : Store} {p : ℕ} (t j : ℕ) → TablePlace l1 s p → (link_outcome s p 4096 t j).answer ≡ 4
link_4096 t j at = link_beyond 4096 t j at (omega arith)

pub unmap_4095 : {s : Store} {p : ℕ} → Vacant sections s p 4095 → (unmap_outcome sections s p 4095).answer ≡ 0
unfolding takes is_fault
unmap_4095 room = unmap_fault_accepted sections 4095 refl refl room (omega arith)

pub unmap_4096 : {s : Store} {p : ℕ} → TablePlace l1 s p → (unmap_outcome sections s p 4096).answer ≡ 4
unmap_4096 at = unmap_beyond sections 4096 refl at (omega arith)

-- edges 2: index 1,023 of an L2 block is taken, and 1,024 is answered with 4
pub map_1023 : {golden : List ℕ} {s : Store} {p t r kind : ℕ} → Vacant pages s p 1023 → kind < 8 → ReadTarget pages golden s t r → (map_outcome pages golden s p 1023 t r kind).answer ≡ 0
map_1023 {kind = kind} room named target = map_accepted_lem pages 1023 refl kind room (omega arith) named target

pub map_1024 : (golden : List ℕ) {s : Store} {p : ℕ} (t r kind : ℕ) → TablePlace l2 s p → misfit_image golden ≡ false → (map_outcome pages golden s p 1024 t r kind).answer ≡ 4
map_1024 golden t r kind at image = map-beyond pages 1024 refl golden t r kind at image (mod-one t) (omega arith)

pub unmap_1023 : {s : Store} {p : ℕ} → Vacant pages s p 1023 → (unmap_outcome pages s p 1023).answer ≡ 0
unfolding takes is_fault
unmap_1023 room = unmap_fault_accepted pages 1023 refl refl room (omega arith)

pub unmap_1024 : {s : Store} {p : ℕ} → TablePlace l2 s p → (unmap_outcome pages s p 1024).answer ≡ 4
unmap_1024 at = unmap_beyond pages 1024 refl at (omega arith)

-- edges 2: for a large page index 1,008 is taken; 1,009 to 1,023 are answered with 3, 1,024 with 4, and 1,025 with 3
pub map_large_1008 : {golden : List ℕ} {s : Store} {p t r kind : ℕ} → Vacant larges s p 1008 → kind < 8 → ReadTarget larges golden s t r → (map_outcome larges golden s p 1008 t r kind).answer ≡ 0
map_large_1008 {kind = kind} room named target = map_accepted_lem larges 1008 refl kind room (omega arith) named target

module _ {s : Store} {p : ℕ} (at : TablePlace l2 s p) where
  module _ (golden : List ℕ) (t r kind : ℕ) (image : misfit_image golden ≡ false) (aligned : t % 16 ≡ 0) where
    pub map_large_1009 : (i : ℕ) → 1009 ≤ i → i ≤ 1023 → (map_outcome larges golden s p i t r kind).answer ≡ 3
    map_large_1009 i low high = map-misaligned larges i (λ e. omega arith) golden t r kind at image aligned

    pub map_large_1024 : (map_outcome larges golden s p 1024 t r kind).answer ≡ 4
    map_large_1024 = map-beyond larges 1024 refl golden t r kind at image aligned (omega arith)

    pub map_large_1025 : (map_outcome larges golden s p 1025 t r kind).answer ≡ 3
    map_large_1025 = map-misaligned larges 1025 (λ e. omega arith) golden t r kind at image aligned

  pub unmap_large_1009 : (i : ℕ) → 1009 ≤ i → i ≤ 1023 → (unmap_outcome larges s p i).answer ≡ 3
  unmap_large_1009 i low high = unmap_misaligned larges i (λ e. omega arith) at

  pub unmap_large_1024 : (unmap_outcome larges s p 1024).answer ≡ 4
  unmap_large_1024 = unmap_beyond larges 1024 refl at (omega arith)

  pub unmap_large_1025 : (unmap_outcome larges s p 1025).answer ≡ 3
  unmap_large_1025 = unmap_misaligned larges 1025 (λ e. omega arith) at

-- edges 8: kind 7 is taken, and 8 and above are answered with 4
pub kind_7 : (f : Form) {golden : List ℕ} {s : Store} {p t r : ℕ} (i : ℕ) → i % mapping_words f ≡ 0 → Vacant f s p i → i < table_entries (level f) → ReadTarget f golden s t r
    → (map_outcome f golden s p i t r 7).answer ≡ 0
kind_7 f i whole room l target = map_accepted_lem f i whole 7 room l (omega arith) target

pub kind_8 : (f : Form) (golden : List ℕ) {s : Store} {p : ℕ} (i t r kind : ℕ) → TablePlace (level f) s p → misfit_image golden ≡ false → t % target_blocks f ≡ 0 → i % mapping_words f ≡ 0
    → i < table_entries (level f) → 8 ≤ kind → (map_outcome f golden s p i t r kind).answer ≡ 4
kind_8 f golden i t r kind at image aligned whole l h = map_no_kind f i whole golden t r kind at image aligned l h

-- edges 3: a section that ends where the region ends is taken
pub last_section : (golden : List ℕ) {s : Store} {p i kind : ℕ} (r : ℕ) → Vacant sections s p i → i < 4096 → kind < 8 → misfit_image golden ≡ false → 256 ≤ blocks s → (base s + blocks s - 256) % 256 ≡ 0 → r ≤ 1
    → (map_outcome sections golden s p i (base s + blocks s - 256) r kind).answer ≡ 0
last_section golden {s} {p} {i} {kind} r room l named image wide aligned reads =
    map_accepted_lem sections i (mod-one i) kind room l named (record { image = image; low = omega arith; high = omega arith; aligned = aligned; reads = reads })

-- edges 3: and so is a large page
pub last_large : (golden : List ℕ) {s : Store} {p i kind : ℕ} (r : ℕ) → Vacant larges s p i → i % 16 ≡ 0 → i < 1024 → kind < 8 → misfit_image golden ≡ false → 16 ≤ blocks s → (base s + blocks s - 16) % 16 ≡ 0 → r ≤ 1
    → (map_outcome larges golden s p i (base s + blocks s - 16) r kind).answer ≡ 0
last_large golden {s} {p} {i} {kind} r room multiple l named image wide aligned reads =
    map_accepted_lem larges i multiple kind room l named (record { image = image; low = omega arith; high = omega arith; aligned = aligned; reads = reads })

-- What edges 2 and 3 take can be had at once: in 256 blocks of zeros, where blocks 0 to 3 are an L1 table and block 4 is an L2 block

abbrev pub blank_ledger : List ℕ
blank_ledger = replicate (ledger_head_bytes + ledger_record_bytes * 256) 0

abbrev pub wide : Store
wide = record { memory = zeros (block_bytes * 256); ledger = put_record_word (retype blank_ledger 0 4 (type_code l1)) type_word 4 (type_code l2) }

-- a store of this size with B 0 and kinds 0, and a table in it
module _ (s : Store) (memory : length s.memory ≡ block_bytes * 256) (ledger : length s.ledger ≡ ledger_head_bytes + ledger_record_bytes * 256) (based : base s ≡ 0) (zero_kinds : kinds_of s.ledger ≡ replicate kinds_bytes 0) where
  pub wide_blocks : blocks s ≡ 256
  wide_blocks = rw memory refl

  wide_fits : misfit_stored s ≡ false
  unfolding misfit misfit_stored unlawful_kinds any kind_at half
  wide_fits = rw (memory, ledger, based, zero_kinds) refl

  pub wide_table : (v : Level) (p i : ℕ) → p + table_blocks v ≤ 256 → p % table_blocks v ≡ 0 → ((k : ℕ) → k < table_blocks v → type_of s (p + k) ≡ type_code v)
      → counter executable s (holder p i) ≡ 0 → Ready v s p i
  wide_table v p i high aligned typed unexecuted =
      record { placed = record { fits = wide_fits; low = omega arith; high = omega (arith, wide_blocks); aligned = aligned }; typed = typed; unexecuted = unexecuted }

pub length_wide : length wide.ledger ≡ ledger_head_bytes + ledger_record_bytes * 256
length_wide =
    length-put_record_word (retype blank_ledger 0 4 (type_code l1)) type_word 4 (type_code l2) ∙ length-retype blank_ledger 0 4 (type_code l1) ∙ length-replicate {A = ℕ} (ledger_head_bytes + ledger_record_bytes * 256) 0

pub wide_base : base wide ≡ 0
unfolding word put_word put_record_word retype
wide_base = refl

pub wide_kinds : kinds_of wide.ledger ≡ replicate kinds_bytes 0
unfolding put_word put_record_word retype kinds_of part
wide_kinds = refl

room_section : Vacant sections wide 0 4095
unfolding word put_word record_word put_record_word retype
room_section = record { ready = wide_table wide (length-zeros (block_bytes * 256)) length_wide wide_base wide_kinds l1 0 4095 (omega arith) refl typed refl; empty = λ k l. zero_entry l1 (block_bytes * 256) _ } where
  typed : (k : ℕ) → k < 4 → type_of wide (0 + k) ≡ type_code l1
  typed zero l = refl
  typed (suc zero) l = refl
  typed (suc (suc zero)) l = refl
  typed (suc (suc (suc zero))) l = refl
  typed (suc (suc (suc (suc k)))) l = let z : ⊥ = omega arith in absurd z

-- block 4 as an L2 block
ready_l2 : (i : ℕ) → i < 1024 → Ready l2 wide 4 i
unfolding word put_word record_word put_record_word retype
ready_l2 i l =
    let one : i / 1024 ≡ 0 = omega arith in
    wide_table wide (length-zeros (block_bytes * 256)) length_wide wide_base wide_kinds l2 4 i (omega arith) refl (λ k l. let z : k ≡ 0 = omega arith in rw z refl) (rw one refl)

room_page : Vacant pages wide 4 1023
room_page = record { ready = ready_l2 1023 (omega arith); empty = λ k l. zero_entry l2 (block_bytes * 256) _ }

room_large : Vacant larges wide 4 1008
room_large = record { ready = ready_l2 1008 (omega arith); empty = λ k l. zero_entry l2 (block_bytes * 256) _ }

pub edges_taken : ((map_outcome sections [] wide 0 4095 (base wide + blocks wide - 256) 1 first_kind).answer ≡ 0) × ((link_outcome wide 0 4095 4 0).answer ≡ 0) × ((unmap_outcome sections wide 0 4095).answer ≡ 0)
    × ((map_outcome pages [] wide 4 1023 255 1 first_kind).answer ≡ 0) × ((unmap_outcome pages wide 4 1023).answer ≡ 0)
    × ((map_outcome larges [] wide 4 1008 (base wide + blocks wide - 16) 1 first_kind).answer ≡ 0)
unfolding misfit_image word put_word record_word put_record_word retype
edges_taken =
    let n = wide_blocks wide (length-zeros (block_bytes * 256)) length_wide wide_base wide_kinds in (
      last_section [] {kind = first_kind} 1 room_section (omega arith) (omega arith) refl (omega arith) (rw n refl) (omega arith),
      link_4095 room_section (record { low = omega arith; high = omega arith; type = refl; room = omega arith; table = omega arith }),
      unmap_4095 room_section,
      map_1023 {kind = first_kind} room_page (omega arith) (record { image = refl; low = omega arith; high = omega arith; aligned = refl; reads = omega arith }),
      unmap_1023 room_page,
      last_large [] {kind = first_kind} 1 room_large refl (omega arith) (omega arith) refl (omega arith) (rw n refl) (omega arith),
    )
