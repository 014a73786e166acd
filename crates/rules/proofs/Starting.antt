-- Begin, switch and forget keep the invariant: begin leaves no table, no count and no mark, switch checks that its block is a table, and
-- forget clears marks.
use mathlib.Core.Bool.{Bool, false}
use mathlib.Core.Logic.{inl, ⊎_elim}
use mathlib.Core.Option.{none-ne-some}
use mathlib.Core.List.{List}
use mathlib.Core.Path.{◌≡◌, refl, sym, ◌∙◌}
use Prim.Native.Nat.{ℕ, ◌+◌, ◌-◌, ◌*◌, ◌%◌, ◌<◌, ◌≤◌}
use native.Mathlib.Omega.{arith}
use lib.ListN.{length}
use borrow.Author.Tests.{lt-ltb}
use Rattle.words.specs.Bounded.{above}
use Rattle.words.specs.Lists.{put_list}
use Rattle.words.specs.Words.{put_word}
use Rattle.words.proofs.Bounded.{and_false_right, window_or_outside}
use Rattle.words.proofs.Lists.{length-put_list}
use Rattle.words.proofs.Words.{length-put_word, word-put_word_same, word-put_word_other}
use Rattle.entries.specs.Entries.{fault, l1}
use Rattle.rules.specs.Store.{block_words, kinds_bytes, base_place, active_place, kinds_place, kinds_of, no_table, outside as outsideOf, Store, blocks, base, record_word, type_word, Counter, writable, executable, counter_word, mark_word, retype, recount}
use Rattle.rules.specs.Refusals.{answer_of}
use Rattle.rules.specs.Tables.{type_d, type_code, table_blocks, typed_entry}
use Rattle.rules.specs.Outcomes.{leaving}
use Rattle.rules.specs.Begin.{cleared, begin_refusals, begin_after, begin_outcome}
use Rattle.rules.specs.Switch.{switch_refusals, switch_after, switch_outcome}
use Rattle.rules.specs.Forget.{stray_blocks, forget_refusals, forget_after, forget_outcome}
use Rattle.rules.specs.Box.{grants_write}
use Rattle.rules.specs.Steps.{begins, switches, forgets, Told, begun, after_accepted, Root}
use Rattle.rules.proofs.Refusals.{Passed, now, rest, passed, avoided}
use Rattle.rules.proofs.Gains.{gives_fault, gain_none}
use Rattle.rules.proofs.Consistent.{sound_fault, still}
use Rattle.rules.proofs.Ledger.{kinds_put_word, record_word_put_head, record_word_put_kinds, kinds_put, length-retype, length-recount, type_retype_in, type_recount, counter-recount, OnlyMarks, marks_clear_all, mark_all_cleared, mark_not_cleared}
use Rattle.rules.proofs.State.{Fit, fits, fit_same, equal, within, types_told, MarkedAt, Running, running, Goes, grows_none, Next, next, settle_accepted}

-- what the tests of begin say of the ledger and of the kinds that are given
pub begin_fits : (s : Store) (kinds : List ℕ) (B : ℕ) → Passed (begin_refusals s kinds B) → Fit B (blocks s) s × (length kinds ≡ kinds_bytes)
begin_fits s kinds B t = (fits s B (now t), equal (length kinds) kinds_bytes (now (rest t)))

module _ (s : Store) (kinds : List ℕ) (B : ℕ) (golden : List ℕ) where
  abbrev n : ℕ
  n = blocks s

  abbrev untyped : List ℕ
  untyped = retype s.ledger 0 n type_d

  abbrev uncounted : List ℕ
  uncounted = recount untyped n (λ c b. 0)

  only_marks : OnlyMarks uncounted (cleared s)
  only_marks = marks_clear_all uncounted 0 n

  abbrev kept : List ℕ
  kept = put_list (cleared s) kinds_place kinds

  abbrev based : List ℕ
  based = put_word kept base_place B

  length-cleared : length (cleared s) ≡ length s.ledger
  length-cleared = only_marks.length_is ∙ length-recount untyped n (λ c b. 0) ∙ length-retype s.ledger 0 n type_d

  length_kept : length kept ≡ length s.ledger
  length_kept = length-put_list (cleared s) kinds_place kinds ∙ length-cleared

  module _ (fit : Fit B n s) (sixteen : length kinds ≡ kinds_bytes) where
    -- the kinds, B and active are stored beside the records
    record_begun : (k b : ℕ) → record_word (begin_after s kinds B).ledger k b ≡ record_word (cleared s) k b
    record_begun k b =
        record_word_put_head _ active_place _ k b (omega arith) ∙ record_word_put_head kept base_place B k b (omega arith) ∙ record_word_put_kinds (cleared s) kinds sixteen k b

    -- and B and active beside the kinds
    kinds_begun : kinds_of (begin_after s kinds B).ledger ≡ kinds
    kinds_begun =
        kinds_put_word based active_place no_table (inl (omega arith)) ∙ kinds_put_word kept base_place B (inl (omega arith))
        ∙ kinds_put (cleared s) kinds sixteen (rw (length-cleared, fit.ledger_length) (omega arith))

    type_begun : (b : ℕ) → b < n → record_word (begin_after s kinds B).ledger type_word b ≡ type_d
    type_begun b l =
        record_begun type_word b ∙ only_marks.type_is b ∙ type_recount untyped n (λ c b. 0) b
        ∙ type_retype_in s.ledger 0 n type_d n b fit.ledger_length (omega arith) (omega arith) (omega arith) (omega arith)

    counter-begun : (c : Counter) (b : ℕ) → b < n → record_word (begin_after s kinds B).ledger (counter_word c) b ≡ 0
    counter-begun c b l =
        record_begun (counter_word c) b ∙ only_marks.counter_is c b
        ∙ counter-recount untyped n n (λ c b. 0) (length-retype s.ledger 0 n type_d ∙ fit.ledger_length) (omega arith) c b l (omega arith)

    mark_begun : (b : ℕ) → b < n → record_word (begin_after s kinds B).ledger mark_word b ≡ 0
    mark_begun b l =
        record_begun mark_word b
        ∙ mark_all_cleared uncounted 0 n n (length-recount untyped n (λ c b. 0) ∙ length-retype s.ledger 0 n type_d ∙ fit.ledger_length) (omega arith) b (omega arith) (omega arith)

    unmarked-begun : (b : ℕ) → b < n → MarkedAt (begin_after s kinds B) b → ⊥
    unmarked-begun b l k = omega (arith, mark_begun b l)

  begin_runs : Passed (begin_refusals s kinds B) → Running (begun kinds B golden) (begin_after s kinds B)
  unfolding typed_entry
  begin_runs t =
      let (fit, sixteen) = begin_fits s kinds B t in
      running (record {
        told-base = refl;
        fit = fit_same (begin_after s kinds B) fit refl (length-put_word _ active_place _ ∙ length-put_word kept base_place B ∙ length_kept);
        base_is =
            word-put_word_other _ active_place _ base_place (λ _. omega arith)
            ∙ word-put_word_same kept base_place B (rw length_kept (omega arith)) (omega arith);
        active_is = word-put_word_same based active_place no_table (rw (length-put_word kept base_place B, length_kept) (omega arith)) (omega arith);
        kinds_are = kinds_begun fit sixteen;
        kinds_lawful = now (rest (rest t));
        types_are = type_begun fit sixteen;
        root = λ p e. absurd (none-ne-some p e);
        consistent = record {
          counts_are = λ c b l. counter-begun fit sixteen c b l ∙ sym (gain_none (block_words * n) (λ j. fault) c (B + b) (λ i h. gives_fault c (B + b)));
          sound = λ j l. sound_fault B n (λ b. type_d);
          exclusive = λ b l w. counter-begun fit sixteen executable b l;
          signs = λ b l x. let z : ⊥ = omega (arith, counter-begun fit sixteen executable b l) in absurd z;
        };
        believed = λ b l k. absurd (unmarked-begun fit sixteen b l k);
      })

  begin_goes : (granted : ℕ → Bool) → Passed (begin_refusals s kinds B) → Goes granted (begun kinds B golden) s (begin_after s kinds B)
  begin_goes granted t =
      let (fit, sixteen) = begin_fits s kinds B t in
      record {
        runs = begin_runs t;
        grows = record { writes = λ b l w. let z : ⊥ = omega (arith, counter-begun fit sixteen writable b l) in absurd z; marks = λ b l k. absurd (unmarked-begun fit sixteen b l k); same_blocks = refl };
      }

  pub begin_accepted : (begin_outcome s kinds B).answer ≡ 0 → Running (begun kinds B golden) (begin_outcome s kinds B).after
  unfolding begin_outcome
  begin_accepted accepted =
      let rs = begin_refusals s kinds B in
      let (zero_is, after_is, _) = settle_accepted s (leaving (begin_after s kinds B)) (answer_of rs) accepted in
      rw after_is (begin_runs (passed rs (omega arith) zero_is))

  pub begin_unmarked : (begin_outcome s kinds B).answer ≡ 0 → (b : ℕ) → b < blocks (begin_outcome s kinds B).after → MarkedAt (begin_outcome s kinds B).after b → ⊥
  unfolding begin_outcome
  begin_unmarked accepted =
      let rs = begin_refusals s kinds B in
      let (zero_is, after_is, _) = settle_accepted s (leaving (begin_after s kinds B)) (answer_of rs) accepted in
      let t = passed rs (omega arith) zero_is in
      let (fit, sixteen) = begin_fits s kinds B t in
      rw after_is (unmarked-begun fit sixteen)

module _ {h : Told} {s : Store} (r : Running h s) (p : ℕ) where
  pub switch_runs : Passed (switch_refusals s p) → Running (after_accepted h (switches p)) (switch_after s p)
  unfolding after_accepted
  switch_runs t1 =
      let t2 = rest t1 in
      let t3 = rest t2 in
      let t4 = rest t3 in
      let (low, high) = within (base s) (blocks s) p (table_blocks l1) (now t2) in
      let f = r.fit in
      let table : Root (base s) (blocks s) h.types p =
      record { low = low; high = high; aligned = equal (p % table_blocks l1) 0 (now t3); typed = types_told r l1 p (type_code l1) (now t2) (now t4) } in
      running (record {
        told-base = r.told-base;
        fit = fit_same (switch_after s p) f refl (length-put_word s.ledger active_place p);
        base_is = word-put_word_other s.ledger active_place p base_place (λ _. omega arith);
        active_is = word-put_word_same s.ledger active_place p (omega arith) (omega arith);
        kinds_are = kinds_put_word s.ledger active_place p (inl (omega arith)) ∙ r.kinds_are;
        kinds_lawful = r.kinds_lawful;
        types_are = λ b l. record_word_put_head s.ledger active_place p type_word b (omega arith) ∙ r.types_are b l;
        root = λ q e. let same : p ≡ q = cc in rw same at table;
        consistent = still r.consistent (λ j l. refl) (λ b l x. refl) (λ c b l. record_word_put_head s.ledger active_place p (counter_word c) b (omega arith));
        believed = λ b l k. r.believed b l (sym (record_word_put_head s.ledger active_place p mark_word b (omega arith)) ∙ k);
      })

  switch_goes : (granted : ℕ → Bool) → Passed (switch_refusals s p) → Goes granted (after_accepted h (switches p)) s (switch_after s p)
  switch_goes granted t =
      let same : (k b : ℕ) → record_word (switch_after s p).ledger k b ≡ record_word s.ledger k b = λ k b. record_word_put_head s.ledger active_place p k b (omega arith) in
      record { runs = switch_runs t; grows = record { writes = λ b l w. inl (rw (same (counter_word writable) b) at w); marks = λ b l k. inl (sym (same mark_word b) ∙ k); same_blocks = refl } }

  pub switch_next : Next h s (switches p) (switch_outcome s p)
  unfolding switch_outcome
  switch_next =
      let rs = switch_refusals s p in
      next (switches p) (leaving (switch_after s p)) (answer_of rs) r (avoided 13 rs (λ e. omega arith) (omega arith)) (avoided 24 rs (λ e. omega arith) (omega arith))
      (λ e. switch_goes (grants_write s (switches p)) (passed rs (omega arith) e))

-- Forget: the m blocks from p on
module _ {h : Told} {s : Store} (r : Running h s) (p m : ℕ) where
  cleared_marks : OnlyMarks s.ledger (forget_after s p m).ledger
  cleared_marks = marks_clear_all s.ledger (p - base s) m

  -- no block is marked that was not
  none_marked : stray_blocks s p m ≡ false → (b : ℕ) → b < blocks s → MarkedAt (forget_after s p m) b → MarkedAt s b
  unfolding stray_blocks
  none_marked t b l k = ⊎_elim inside outside (window_or_outside b (p - base s) m) where
    inside : (p - base s ≤ b) × (b < p - base s + m) → MarkedAt s b
    inside (lo, hi) =
        let (low, high) = within (base s) (blocks s) p m (and_false_right (above m 0) (outsideOf (base s) (blocks s) p m) t (lt-ltb 0 m (omega arith))) in
        let z : ⊥ = omega (arith, k, mark_all_cleared s.ledger (p - base s) m (blocks s) r.fit.ledger_length (omega arith) b lo hi) in
        absurd z

    outside : (p - base s ≤ b → p - base s + m ≤ b) → MarkedAt s b
    outside o = sym (mark_not_cleared s.ledger (p - base s) m b o) ∙ k

  pub forget_goes : (granted : ℕ → Bool) → Passed (forget_refusals s p m) → Goes granted h s (forget_after s p m)
  forget_goes granted t =
      let o = cleared_marks in
      let marks = none_marked (now (rest t)) in
      record {
        runs = running (record {
          told-base = r.told-base;
          fit = fit_same (forget_after s p m) r.fit refl o.length_is;
          base_is = o.head_is base_place (omega arith);
          active_is = o.head_is active_place (omega arith) ∙ r.active_is;
          kinds_are = o.kinds_are ∙ r.kinds_are;
          kinds_lawful = r.kinds_lawful;
          types_are = λ b l. o.type_is b ∙ r.types_are b l;
          root = r.root;
          consistent = still r.consistent (λ j l. refl) (λ b l x. refl) (λ c b l. o.counter_is c b);
          believed = λ b l k. r.believed b l (marks b l k);
        });
        grows = grows_none granted s (forget_after s p m) o marks refl;
      }

  -- a block that was forgotten is not marked
  pub forgotten_unmarked : (forget_outcome s p m).answer ≡ 0 → (b : ℕ) → p ≤ base s + b → base s + b < p + m → MarkedAt (forget_outcome s p m).after b → ⊥
  unfolding forget_outcome stray_blocks
  forgotten_unmarked accepted b lo hi k =
      let rs = forget_refusals s p m in
      let (zero_is, after_is, _) = settle_accepted s (leaving (forget_after s p m)) (answer_of rs) accepted in
      let t = now (rest (passed rs (omega arith) zero_is)) in
      let (low, high) = within (base s) (blocks s) p m (and_false_right (above m 0) (outsideOf (base s) (blocks s) p m) t (lt-ltb 0 m (omega arith))) in
      omega (arith, rw after_is at k, mark_all_cleared s.ledger (p - base s) m (blocks s) r.fit.ledger_length (omega arith) b (omega arith) (omega arith))

  pub forget_next : Next h s (forgets p m) (forget_outcome s p m)
  unfolding forget_outcome after_accepted
  forget_next =
      let rs = forget_refusals s p m in
      next (forgets p m) (leaving (forget_after s p m)) (answer_of rs) r (avoided 13 rs (λ e. omega arith) (omega arith)) (avoided 24 rs (λ e. omega arith) (omega arith))
      (λ e. forget_goes (grants_write s (forgets p m)) (passed rs (omega arith) e))

pub begin_next : {h : Told} {s : Store} → Running h s → (kinds : List ℕ) (B : ℕ) → Next h s (begins kinds B) (begin_outcome s kinds B)
unfolding begin_outcome after_accepted
begin_next {h} {s} r kinds B =
    let rs = begin_refusals s kinds B in
    next (begins kinds B) (leaving (begin_after s kinds B)) (answer_of rs) r (avoided 13 rs (λ e. omega arith) (omega arith)) (avoided 24 rs (λ e. omega arith) (omega arith))
    (λ e. begin_goes s kinds B h.golden (grants_write s (begins kinds B)) (passed rs (omega arith) e))
