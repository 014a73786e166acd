-- Steps, lists of steps, and what steps and answers tell (RULES: lists, policies).
use Rattle.std.specs.Prelude.{cond, List, [], ◌∷◌, ◌≡◌, ℕ, zero, suc, ◌+◌, ◌*◌, ◌/◌, ◌%◌, ◌≤◌, ◌<◌}
use Rattle.std.proofs.Math.Option.{Option, none, some}
use Rattle.words.specs.Bounded.{among}
use Rattle.entries.specs.Entries.{Level, l1}
use Rattle.rules.specs.Store.{block_words, Store, Counter}
use Rattle.rules.specs.Outcomes.{Outcome}
use Rattle.rules.specs.Tables.{type_d, type_code, table_blocks, Form, typed_entry, gain}
use Rattle.rules.specs.Begin.{begin_outcome}
use Rattle.rules.specs.Create.{create_outcome}
use Rattle.rules.specs.Free.{free_outcome}
use Rattle.rules.specs.Map.{map_outcome}
use Rattle.rules.specs.Link.{link_outcome}
use Rattle.rules.specs.Unmap.{unmap_outcome}
use Rattle.rules.specs.Switch.{switch_outcome}
use Rattle.rules.specs.Registers.{acknowledge_outcome}
use Rattle.rules.specs.Guest.{Access, guest_outcome}
use Rattle.rules.specs.Forget.{forget_outcome}

-- lists 1, begin kinds, map kind: one of the twenty-two calls, with any arguments; the accesses, with the registers that they are lent, are the guest steps, and a
-- begin or a map that names no kinds is one with cachedKinds or firstKind
pub data Step : Type 0 where
  begins : List ℕ → ℕ → Step
  creates : Level → ℕ → Step
  frees : Level → ℕ → Step
  maps : Form → ℕ → ℕ → ℕ → ℕ → ℕ → Step
  links : ℕ → ℕ → ℕ → ℕ → Step
  unmaps : Form → ℕ → ℕ → Step
  switches : ℕ → Step
  accesses : Access → List ℕ → ℕ → Step
  acknowledges : List ℕ → Step
  forgets : ℕ → ℕ → Step

-- lists 1, lists 3: what comes of a step that is lent this image and this store
unfoldable pub obey : List ℕ → Store → Step → Outcome
obey golden s (begins kinds B) = begin_outcome s kinds B
obey golden s (creates v p) = create_outcome v golden s p
obey golden s (frees v p) = free_outcome v s p
obey golden s (maps f p i t r k) = map_outcome f golden s p i t r k
obey golden s (links p i t j) = link_outcome s p i t j
obey golden s (unmaps f p i) = unmap_outcome f s p i
obey golden s (switches p) = switch_outcome s p
obey golden s (accesses a registers addr) = guest_outcome a s registers addr
obey golden s (acknowledges registers) = acknowledge_outcome s registers
obey golden s (forgets p m) = forget_outcome s p m

-- lists 3: what comes of a list: the store reached, every answer, and every byte given (0 where a step gives none); numbers are left out
pub record Run : Type 0 where
  pub reached : Store
  pub answers : List ℕ
  pub bytes : List ℕ

-- lists 3: every step is lent the store that the one before it left; by says what comes of a step
unfoldable pub run_by : (Store → Step → Outcome) → Store → List Step → Run
run_by by s [] = record { reached = s; answers = []; bytes = [] }
run_by by s (step ∷ steps) =
    let o = by s step in
    let rest = run_by by o.after steps in
    record { reached = rest.reached; answers = o.answer ∷ rest.answers; bytes = o.byte ∷ rest.bytes }

-- lists 3: the steps are calls, and all are lent one image
abbrev pub run : List ℕ → Store → List Step → Run
run golden s steps = run_by (obey golden) s steps

-- lists 4, lists 5, lists 11: what is told: B, the kinds, the tables as types of physical blocks, the table of the last accepted switch, and the image
pub record Told : Type 0 where
  pub B : ℕ
  pub kinds : List ℕ
  pub types : ℕ → ℕ
  pub table : Option ℕ
  pub golden : List ℕ

-- lists 5, lists 11: what an accepted begin tells: no tables, and no switch
abbrev pub begun : List ℕ → ℕ → List ℕ → Told
begun kinds B golden = record { B = B; kinds = kinds; types = λ b. type_d; table = none; golden = golden }

-- lists 5: the types when the m blocks from p on get type t
unfoldable pub typed : (ℕ → ℕ) → ℕ → ℕ → ℕ → ℕ → ℕ
typed types p m t b = cond (among p m b) t (types b)

-- policies reach, entries 1: an L1 table of the tables told that lies in the region of n blocks from B on
pub record Root (B n : ℕ) (types : ℕ → ℕ) (p : ℕ) : Type 0 where
  pub low : B ≤ p
  pub high : p + table_blocks l1 ≤ B + n
  pub aligned : p % table_blocks l1 ≡ 0
  pub typed : (i : ℕ) → i < table_blocks l1 → types (p + i) ≡ type_code l1

-- lists 5, lists 11: what is told after an accepted step
unfoldable pub after_accepted : Told → Step → Told
after_accepted h (begins kinds B) = begun kinds B h.golden
after_accepted h (creates v p) = record { B = h.B; kinds = h.kinds; types = typed h.types p (table_blocks v) (type_code v); table = h.table; golden = h.golden }
after_accepted h (frees v p) = record { B = h.B; kinds = h.kinds; types = typed h.types p (table_blocks v) type_d; table = h.table; golden = h.golden }
after_accepted h (maps f p i t r k) = h
after_accepted h (links p i t j) = h
after_accepted h (unmaps f p i) = h
after_accepted h (switches p) = record { B = h.B; kinds = h.kinds; types = h.types; table = some p; golden = h.golden }
after_accepted h (accesses a registers addr) = h
after_accepted h (acknowledges registers) = h
after_accepted h (forgets p m) = h

-- lists 5: an accepted step tells something, a refused one nothing
unfoldable pub after_answer : ℕ → Told → Step → Told
after_answer zero h step = after_accepted h step
after_answer (suc k) h step = h

-- lists 4, lists 5: what is told after the steps of a list, by their answers
unfoldable pub history : Told → List Step → List ℕ → Told
history h [] answers = h
history h (step ∷ steps) [] = h
history h (step ∷ steps) (k ∷ answers) = history (after_answer k h step) steps answers

-- lists 6: w, x or l of physical block p, counted over all words of a memory of n blocks, with the tables told as types
unfoldable pub afresh : Told → ℕ → List ℕ → Counter → ℕ → ℕ
afresh h n memory c p = gain (block_words * n) (λ j. typed_entry (h.types (h.B + j / block_words)) memory j) c p
