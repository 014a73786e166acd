-- Every number of create list and free list is an answer, for block 0 as an L2 block: its first entry decides, and the others are faults.
use mathlib.Core.Bool.{Bool, true, false, ◌&&◌, ◌||◌, and-false, or-true}
use mathlib.Core.List.{List, [], ◌∷◌}
use mathlib.Core.Logic.{◌⊎◌, inl, inr}
use mathlib.Core.Path.{◌≡◌, refl, ◌∙◌, ap}
use Prim.Native.Nat.{ℕ, ◌+◌, ◌-◌, ◌^◌, ◌<◌, ◌≤◌}
use native.Mathlib.Nat.{zero-add}
use native.Mathlib.Omega.{arith}
use lib.ListN.{drop}
use borrow.Author.Tests.{lt-ltb}
use Rattle.words.specs.Lists.{part}
use Rattle.words.specs.Bounded.{above, neqb, any, num}
use Rattle.words.specs.Words.{word, put_word}
use Rattle.words.proofs.Bounded.{below_or_above, any_none, any_hit, any_avoids}
use Rattle.signature.specs.Signed.{misfit_image}
use Rattle.entries.specs.Entries.{Entry, fault, unaccepted, page, l1, l2, entry_at, l2_entry, is_page_form, is_large_form, is_unaccepted, is_link, rights, place_first, cover_first, place_blocks, cover_blocks, covers}
use Rattle.entries.specs.Rights.{may_read, may_write, may_execute, rights_of}
use Rattle.entries.specs.Rights.{write, allows}
use Rattle.rules.specs.Refusals.{answer_of}
use Rattle.rules.specs.Store.{counter_limit, base_place, blocks, base, record_word, put_record_word, retype, type_word, Counter, type_of, counter, counter_word, writable, executable, linked, some_counter, outside, some_block, kinds_of}
use Rattle.rules.specs.Tables.{type_d, table_entries, table_entry, type_code, grants, gives, gain, astray}
use Rattle.rules.specs.Signature.{unknown}
use Rattle.rules.specs.General.{end_value, ends_below, overruns, some_overrun}
use Rattle.rules.specs.Create.{some_count, unfit_link, unfit_write, misplaced, clash, clashes, unsigned as unsignedBy, create_refusals}
use Rattle.rules.specs.Free.{in_use, free_refusals}
use Rattle.rules.proofs.Refusals.{Decides, here, past, decides}
use Rattle.rules.proofs.Ledger.{record_word_put_other}
use Rattle.rules.proofs.Gains.{gives_fault, gain_hit, gain_none, gain-most}
use Rattle.rules.proofs.SmallStores.{memory, length_memory, first_entry, ledger, small_store, fit, unfit, one_l2, one_l1, writes_to5, rest_entry, record_zeros, unsigned, Plain}

-- a store whose block 0, as a table, has the entry w and faults
module _ (w : ℕ) (led : List ℕ) (based : word led base_place ≡ 0) where
  abbrev entry : ℕ → Entry
  entry i = table_entry l2 (small_store w led) 0 i

  entry_at_lem : (i : ℕ) → entry i ≡ entry_at l2 (memory w) i
  entry_at_lem i = rw based (ap (entry_at l2 (memory w)) (zero-add i))

  -- no entry has q, or one has
  no_entry : (q : Entry → Bool) → q (entry_at l2 (memory w) 0) ≡ false → q fault ≡ false → any (table_entries l2) (λ i. q (entry i)) ≡ false
  no_entry q e f = any_avoids (λ i. q (entry i)) (table_entries l2) (λ i l. ap q (entry_at_lem i) ∙ go i (below_or_above 0 i)) where
    go : (i : ℕ) → (0 < i) ⊎ (i ≤ 0) → q (entry_at l2 (memory w) i) ≡ false
    go i (inl h) = ap q (rest_entry l2 w i h) ∙ f
    go i (inr h) = let z : i ≡ 0 = omega arith in rw z e

  some_entry : (q : Entry → Bool) → q (entry_at l2 (memory w) 0) ≡ true → any (table_entries l2) (λ i. q (entry i)) ≡ true
  some_entry q e = any_hit (λ i. q (entry i)) (table_entries l2) 0 (omega arith) (ap q (entry_at_lem 0) ∙ e)

  -- what they give a block is what the first gives
  gives_some : (c : Counter) (b : ℕ) → gives c (entry_at l2 (memory w) 0) b ≡ true → 0 < gain (table_entries l2) entry c b
  gives_some c b e = gain_hit (table_entries l2) entry c b 0 (omega arith) (ap (λ (x : Entry). gives c x b) (entry_at_lem 0) ∙ e)

  gives_none : (c : Counter) (b : ℕ) → gives c (entry_at l2 (memory w) 0) b ≡ false → gain (table_entries l2) entry c b ≡ 0
  gives_none c b e = gain_none (table_entries l2) entry c b (λ i l. any_none (λ i. gives c (entry i) b) (table_entries l2) (no_entry (λ x. gives c x b) e (gives_fault c b)) i l)

one_block : (p : ℕ) (q : ℕ → Bool) → some_block p 1 q ≡ q (p + 0)
unfolding some_block any
one_block p q = refl

four_blocks : (p : ℕ) (q : ℕ → Bool) → some_block p 4 q ≡ (q (p + 0) || q (p + 1) || q (p + 2) || q (p + 3))
unfolding some_block any
four_blocks p q = refl

-- block 5 of the region has q
fifth : (q : ℕ → Bool) → q 5 ≡ true → some_block 0 8 q ≡ true
unfolding some_block
fifth q e = any_hit (λ k. q (0 + k)) 8 5 (omega arith) e

no_fifth : (q : ℕ → Bool) → ((b : ℕ) → q b ≡ false) → some_block 0 8 q ≡ false
unfolding some_block
no_fifth q e = any_avoids (λ k. q (0 + k)) 8 (λ k l. e (0 + k))

create_1 : (answer_of (create_refusals l2 [] (small_store 0 (put_word ledger base_place 1)) 0) ≡ 1) × (answer_of (create_refusals l2 (0 ∷ []) (small_store 0 ledger) 0) ≡ 1)
unfolding word put_word misfit_image kinds_of part
create_1 = (decides (here (unfit 0 (put_word ledger base_place 1) refl refl)), decides (past (fit 0 ledger (refl, refl) refl) (here refl)))

create_2 : answer_of (create_refusals l2 [] (small_store 0 ledger) 8) ≡ 2
unfolding outside word misfit_image kinds_of part
create_2 = decides (past (fit 0 ledger (refl, refl) refl) (past refl (here (rw (length_memory 0) refl))))

create_3 : answer_of (create_refusals l1 [] (small_store 0 ledger) 1) ≡ 3
unfolding outside word misfit_image kinds_of part
create_3 = decides (past (fit 0 ledger (refl, refl) refl) (past refl (past (rw (length_memory 0) refl) (here refl))))

create_5 : answer_of (create_refusals l2 [] (small_store 0 one_l2) 0) ≡ 5
unfolding outside word misfit_image record_word put_record_word put_word kinds_of part
create_5 = decides (past (fit 0 one_l2 (refl, refl) refl) (past refl (past (rw (length_memory 0) refl) (past refl (here (rw one_block refl))))))

-- up to 5 nothing is held against block 0 of a ledger in which it is D
create_from_6 : {k : ℕ} (w : ℕ) (led : List ℕ) → Plain led → word led base_place ≡ 0 → record_word led type_word 0 ≡ 0
    → Decides (drop 5 (create_refusals l2 [] (small_store w led) 0)) k → answer_of (create_refusals l2 [] (small_store w led) 0) ≡ k
unfolding outside misfit_image
create_from_6 w led l based type d =
    decides (past (fit w led l based) (past refl (past (rw (based, length_memory w) refl) (past refl (past (one_block 0 (λ b. neqb (type_of (small_store w led) b) type_d) ∙ rw (based, type) refl) d)))))

create_6 : answer_of (create_refusals l2 [] (small_store 0 (put_record_word ledger (counter_word writable) 0 1)) 0) ≡ 6
unfolding word record_word put_record_word put_word some_count some_counter kinds_of part
create_6 = create_from_6 0 (put_record_word ledger (counter_word writable) 0 1) (refl, refl) refl refl (here (rw one_block refl))

-- no counts of block 0
abbrev Uncounted : List ℕ → Type 0
Uncounted led = (record_word led (counter_word writable) 0 ≡ 0) × (record_word led (counter_word executable) 0 ≡ 0) × (record_word led (counter_word linked) 0 ≡ 0)

-- and nothing up to 6 if it has no counts
create_from_8 : {k : ℕ} (w : ℕ) (led : List ℕ) → Plain led → word led base_place ≡ 0 → record_word led type_word 0 ≡ 0 → Uncounted led
    → Decides (drop 6 (create_refusals l2 [] (small_store w led) 0)) k → answer_of (create_refusals l2 [] (small_store w led) 0) ≡ k
unfolding some_count some_counter
create_from_8 w led l based type c d =
    create_from_6 w led l based type (past (one_block 0 (λ b. some_counter (λ c. above (counter c (small_store w led) b) 0)) ∙ rw (based, c.0, c.1, c.2) refl) d)

-- a first word that is not accepted: 0x101, which is of no form, and 0x1002D, which has the form of a large page and stands alone
create_unaccepted : (w : ℕ) → w < 2 ^ 32 → l2_entry false 0 w ≡ unaccepted → answer_of (create_refusals l2 [] (small_store w ledger) 0) ≡ 8
unfolding word record_word is_unaccepted kinds_of part
create_unaccepted w h is = create_from_8 w ledger (refl, refl) refl refl (refl, refl, refl) (here (some_entry w ledger refl is_unaccepted (ap is_unaccepted ((first_entry w h).1 ∙ is))))

create_8 : (answer_of (create_refusals l2 [] (small_store 0x101 ledger) 0) ≡ 8) × (answer_of (create_refusals l2 [] (small_store 0x1002D ledger) 0) ≡ 8)
unfolding l2_entry is_page_form is_large_form
create_8 = (create_unaccepted 0x101 (omega arith) refl, create_unaccepted 0x1002D (omega arith) refl)

create_10 : answer_of (create_refusals l2 [] (small_store 0x6403F ledger) 0) ≡ 10
unfolding word record_word l2_entry is_page_form is_large_form is_unaccepted misplaced unfit_link unfit_write astray outside cover_first place_first cover_blocks place_blocks kinds_of part
create_10 =
    let w : ℕ = 0x6403F in
    let e = (first_entry w (omega arith)).1 in
    create_from_8 w ledger (refl, refl) refl refl (refl, refl, refl)
    (past (no_entry w ledger refl is_unaccepted (ap is_unaccepted e) refl)
    (here (some_entry w ledger refl (misplaced l2 (small_store w ledger) 0) (rw (e, length_memory w) refl))))

-- up to 10 nothing is held against a page in block 5
create_from_11 : {k : ℕ} (w r : ℕ) → w < 2 ^ 32 → l2_entry false 0 w ≡ page 5 r → (led : List ℕ) → Plain led → word led base_place ≡ 0 → record_word led type_word 0 ≡ 0
    → record_word led type_word 5 ≡ 0 → Uncounted led → Decides (drop 8 (create_refusals l2 [] (small_store w led) 0)) k → answer_of (create_refusals l2 [] (small_store w led) 0) ≡ k
unfolding is_unaccepted misplaced unfit_link unfit_write astray outside cover_first place_first cover_blocks place_blocks is_link grants allows rights
create_from_11 w r h is led l based type free c d =
    let e = (first_entry w h).1 ∙ is in
    create_from_8 w led l based type c
    (past (no_entry w led based is_unaccepted (ap is_unaccepted e) refl)
    (past (no_entry w led based (misplaced l2 (small_store w led) 0) (rw (e, based, length_memory w, one_block, free) (and-false (allows r write))) refl) d))

-- the page 503F (hexadecimal) makes block 5 writable, the page 502E makes it executable
abbrev entries5 : ℕ → List ℕ → ℕ → Entry
entries5 w led = table_entry l2 (small_store w led) 0

-- block 5 is executable already
create_11 : answer_of (create_refusals l2 [] (small_store 0x503F (put_record_word ledger (counter_word executable) 5 1)) 0) ≡ 11
unfolding word put_word record_word put_record_word l2_entry is_page_form is_large_form rights_of may_read may_write may_execute num clash gives grants allows rights covers cover_first place_first cover_blocks place_blocks kinds_of part
create_11 =
    let w : ℕ = 0x503F in
    let led = put_record_word ledger (counter_word executable) 5 1 in
    let e = (first_entry w (omega arith)).1 in
    let more = gives_some w led refl writable 5 (ap (λ (x : Entry). gives writable x 5) e) in
    let W = gain (table_entries l2) (entries5 w led) writable 5 in
    let X = gain (table_entries l2) (entries5 w led) executable 5 in
    let is : clash 0 1 W X ≡ true = rw (lt-ltb 0 W more, lt-ltb 0 (0 + W) (omega arith), lt-ltb 0 (1 + X) (omega arith)) refl in
    create_from_11 w 3 (omega arith) refl led (refl, refl) refl refl refl (refl, refl, refl)
    (here (rw (length_memory w) (fifth (clashes (small_store w led) (table_entries l2) (entries5 w led)) is)))

-- no block clashes where nothing is writable, or nothing executable, afterwards
no_clash : (w x moreW moreX : ℕ) → (w + moreW ≡ 0) ⊎ (x + moreX ≡ 0) → clash w x moreW moreX ≡ false
unfolding clash
no_clash w x moreW moreX (inl e) = rw (e, and-false (above moreW 0 || above moreX 0)) refl
no_clash w x moreW moreX (inr e) = rw e (and-false ((above moreW 0 || above moreX 0) && above (w + moreW) 0))

create_12 : answer_of (create_refusals l2 [] (small_store 0x502E ledger) 0) ≡ 12
unfolding word record_word l2_entry is_page_form is_large_form rights_of may_read may_write may_execute num gives grants allows rights covers cover_first place_first cover_blocks place_blocks unknown kinds_of part
create_12 =
    let w : ℕ = 0x502E in
    let e = (first_entry w (omega arith)).1 in
    let more = gives_some w ledger refl executable 5 (ap (λ (x : Entry). gives executable x 5) e) in
    let none : (b : ℕ) → gain (table_entries l2) (entries5 w ledger) writable b ≡ 0 = λ b. gives_none w ledger refl writable b (ap (λ (x : Entry). gives writable x b) e) in
    let X = gain (table_entries l2) (entries5 w ledger) executable 5 in
    create_from_11 w 5 (omega arith) refl ledger (refl, refl) refl refl refl (refl, refl, refl)
    (past (rw (length_memory w) (no_fifth (clashes (small_store w ledger) (table_entries l2) (entries5 w ledger)) (λ b. no_clash _ _ _ _ (inl (omega (arith, none b, record_zeros 1 (b - 0)))))))
    (here (rw (length_memory w) (fifth (unsignedBy [] (small_store w ledger) (table_entries l2) (entries5 w ledger)) (rw (lt-ltb 0 X more, unsigned (memory w) 0 5) refl)))))

-- block 5's w is at the limit already
create_13 : answer_of (create_refusals l2 [] (small_store 0x503F (put_record_word ledger (counter_word writable) 5 counter_limit)) 0) ≡ 13
unfolding word put_word record_word put_record_word l2_entry is_page_form is_large_form rights_of may_read may_write may_execute num gives grants allows rights covers cover_first place_first cover_blocks place_blocks some_overrun some_counter overruns ends_below end_value kinds_of part
create_13 =
    let w : ℕ = 0x503F in
    let led = put_record_word ledger (counter_word writable) 5 counter_limit in
    let e = (first_entry w (omega arith)).1 in
    let more = gives_some w led refl writable 5 (ap (λ (x : Entry). gives writable x 5) e) in
    let none : (b : ℕ) → gain (table_entries l2) (entries5 w led) executable b ≡ 0 = λ b. gives_none w led refl executable b (ap (λ (x : Entry). gives executable x b) e) in
    let unexecuted : (b : ℕ) → record_word led (counter_word executable) b ≡ 0 =
    λ b. record_word_put_other ledger (counter_word writable) 5 counter_limit (counter_word executable) b (omega arith) (omega arith) (λ _ z. omega arith) ∙ record_zeros 2 b in
    let W = gain (table_entries l2) (entries5 w led) writable 5 in
    create_from_11 w 3 (omega arith) refl led (refl, refl) refl refl refl (refl, refl, refl)
    (past (rw (length_memory w) (no_fifth (clashes (small_store w led) (table_entries l2) (entries5 w led)) (λ b. no_clash _ _ _ _ (inr (omega (arith, none b, unexecuted (b - 0)))))))
    (past (rw (length_memory w) (no_fifth (unsignedBy [] (small_store w led) (table_entries l2) (entries5 w led)) (λ b. rw (none b) refl)))
    (here (rw (length_memory w) (fifth _ (rw (lt-ltb 0 W more, lt-ltb counter_limit (counter_limit + W) (omega arith)) refl))))))

-- Free of block 0

free_1 : answer_of (free_refusals l2 (small_store 0 (put_word ledger base_place 1)) 0) ≡ 1
unfolding word put_word
free_1 = decides (here (unfit 0 (put_word ledger base_place 1) refl refl))

free_2 : answer_of (free_refusals l2 (small_store 0 ledger) 8) ≡ 2
unfolding outside word kinds_of part
free_2 = decides (past (fit 0 ledger (refl, refl) refl) (here (rw (length_memory 0) refl)))

free_3 : answer_of (free_refusals l1 (small_store 0 ledger) 1) ≡ 3
unfolding outside word kinds_of part
free_3 = decides (past (fit 0 ledger (refl, refl) refl) (past (rw (length_memory 0) refl) (here refl)))

free_5 : answer_of (free_refusals l2 (small_store 0 ledger) 0) ≡ 5
unfolding outside word record_word kinds_of part
free_5 = decides (past (fit 0 ledger (refl, refl) refl) (past (rw (length_memory 0) refl) (past refl (here (rw one_block refl)))))

-- up to 5 nothing is held against block 0 of a ledger in which it is L2
free_from_6 : {k : ℕ} (w : ℕ) (led : List ℕ) → Plain led → word led base_place ≡ 0 → record_word led type_word 0 ≡ type_code l2
    → Decides (drop 4 (free_refusals l2 (small_store w led) 0)) k → answer_of (free_refusals l2 (small_store w led) 0) ≡ k
unfolding outside
free_from_6 w led l based type d =
    decides (past (fit w led l based) (past (rw (based, length_memory w) refl) (past refl (past (one_block 0 (λ b. neqb (type_of (small_store w led) b) (type_code l2)) ∙ rw (based, type) refl) d))))

-- an L2 block that is linked to, and an L1 table that is active
free_6 : answer_of (free_refusals l2 (small_store 0 (put_record_word one_l2 (counter_word linked) 0 1)) 0) ≡ 6
unfolding word record_word put_record_word put_word in_use kinds_of part
free_6 = free_from_6 0 (put_record_word one_l2 (counter_word linked) 0 1) (refl, refl) refl refl (here refl)

free_6_active : answer_of (free_refusals l1 (small_store 0 one_l1) 0) ≡ 6
unfolding outside word record_word put_record_word put_word retype in_use kinds_of part
free_6_active = decides (past (fit 0 one_l1 (refl, refl) refl) (past (rw (length_memory 0) refl) (past refl (past (rw four_blocks refl) (here refl)))))

free_8 : answer_of (free_refusals l2 (small_store 1 one_l2) 0) ≡ 8
unfolding word record_word put_record_word put_word in_use l2_entry is_page_form is_large_form is_unaccepted kinds_of part
free_8 = free_from_6 1 one_l2 (refl, refl) refl refl (past refl (here (some_entry 1 one_l2 refl is_unaccepted (ap is_unaccepted (first_entry 1 (omega arith)).1))))

free_10 : answer_of (free_refusals l2 (small_store 0x6403F one_l2) 0) ≡ 10
unfolding word record_word put_record_word put_word in_use l2_entry is_page_form is_large_form is_unaccepted astray outside cover_first place_first cover_blocks place_blocks kinds_of part
free_10 =
    let w : ℕ = 0x6403F in
    let e = (first_entry w (omega arith)).1 in
    free_from_6 w one_l2 (refl, refl) refl refl
    (past refl
    (past (no_entry w one_l2 refl is_unaccepted (ap is_unaccepted e) refl)
    (here (some_entry w one_l2 refl (astray 0 (blocks (small_store w one_l2))) (rw (e, length_memory w) refl)))))

-- up to 10 nothing is held against a page in block 5
free_from_13 : {k : ℕ} (w r : ℕ) → w < 2 ^ 32 → l2_entry false 0 w ≡ page 5 r → (led : List ℕ) → Plain led → word led base_place ≡ 0 → record_word led type_word 0 ≡ type_code l2
    → record_word led (counter_word linked) 0 ≡ 0 → Decides (drop 7 (free_refusals l2 (small_store w led) 0)) k → answer_of (free_refusals l2 (small_store w led) 0) ≡ k
unfolding in_use is_unaccepted astray outside cover_first place_first cover_blocks place_blocks
free_from_13 w r h is led l based type free d =
    let e = (first_entry w h).1 ∙ is in
    free_from_6 w led l based type
    (past (rw (based, free) refl)
    (past (no_entry w led based is_unaccepted (ap is_unaccepted e) refl)
    (past (no_entry w led based (astray (base (small_store w led)) (blocks (small_store w led))) (rw (e, based, length_memory w) refl) refl) d)))

-- a counter of 0 that falls, and one that stays above the limit
free_13_below : answer_of (free_refusals l2 (small_store 0x503F one_l2) 0) ≡ 13
unfolding word record_word put_record_word put_word l2_entry is_page_form is_large_form rights_of may_read may_write may_execute num gives grants allows rights covers cover_first place_first cover_blocks place_blocks some_overrun some_counter overruns ends_below end_value kinds_of part
free_13_below =
    let w : ℕ = 0x503F in
    let more = gives_some w one_l2 refl writable 5 (ap (λ (x : Entry). gives writable x 5) (first_entry w (omega arith)).1) in
    let W = gain (table_entries l2) (entries5 w one_l2) writable 5 in
    free_from_13 w 3 (omega arith) refl one_l2 (refl, refl) refl refl refl (here (rw (length_memory w) (fifth _ (rw (lt-ltb 0 W more) refl))))

free_13_above : answer_of (free_refusals l2 (small_store 0x503F (writes_to5 (2 ^ 31))) 0) ≡ 13
unfolding word record_word put_record_word put_word l2_entry is_page_form is_large_form rights_of may_read may_write may_execute num gives grants allows rights covers cover_first place_first cover_blocks place_blocks some_overrun some_counter overruns ends_below end_value kinds_of part
free_13_above =
    let w : ℕ = 0x503F in
    let led = writes_to5 (2 ^ 31) in
    let more = gives_some w led refl writable 5 (ap (λ (x : Entry). gives writable x 5) (first_entry w (omega arith)).1) in
    let W = gain (table_entries l2) (entries5 w led) writable 5 in
    let few = gain-most (table_entries l2) (entries5 w led) writable 5 in
    free_from_13 w 3 (omega arith) refl led (refl, refl) refl refl refl
    (here (rw (length_memory w) (fifth _ (rw (lt-ltb 0 W more, lt-ltb counter_limit (2 ^ 31 - W) (omega arith), or-true) refl))))
