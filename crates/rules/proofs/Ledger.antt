-- Laws of the ledger: a word of a record is changed by storing that word only, so types, counters and marks can be changed apart.
use mathlib.Core.Bool.{Bool, true, false, cond}
use mathlib.Core.List.{List}
use mathlib.Core.Logic.{◌≢◌, ◌⊎◌, inl, inr, ⊎_elim}
use mathlib.Core.Path.{◌≡◌, refl, sym, ◌∙◌}
use Prim.Native.Nat.{ℕ, zero, suc, ◌+◌, ◌*◌, ◌^◌, ◌<◌, ◌≤◌}
use native.Mathlib.Decide.{ℕ_discrete}
use native.Mathlib.Omega.{arith}
use lib.ListN.{length}
use Rattle.words.specs.Lists.{put_list}
use Rattle.words.specs.Words.{word, put_word}
use Rattle.words.proofs.Bounded.{last_or_below, below_or_above, among_in, among_out}
use Rattle.words.proofs.Lists.{part_same, part-put_list, get_or-put_list_other}
use Rattle.words.proofs.Words.{length-put_word, get_or-put_word_other, word_cong, word-put_word_same, word-put_word_other}
use Rattle.rules.specs.Store.{ledger_head_bytes, ledger_record_bytes, kinds_place, kinds_bytes, kinds_of, record_word, put_record_word, type_word, Counter, writable, executable, linked, counter_word, mark_word, mark_value, retype, put_counters, recount, clear_mark, clear_marks, mark_blocks}
use Rattle.rules.specs.Steps.{typed}

-- The kinds

-- a word that is stored beside them
pub kinds_put_word : (led : List ℕ) (a v : ℕ) → (a + 4 ≤ kinds_place) ⊎ (ledger_head_bytes ≤ a) → kinds_of (put_word led a v) ≡ kinds_of led
unfolding kinds_of
kinds_put_word led a v beside =
    part_same (put_word led a v) led kinds_place kinds_bytes (length-put_word led a v)
    (λ i l. get_or-put_word_other led a v (kinds_place + i) (λ h. ⊎_elim (λ (b : a + 4 ≤ kinds_place). omega arith) (λ (b : ledger_head_bytes ≤ a). omega arith) beside))

-- One word of a record

-- word k lies in a record
abbrev pub InRecord : ℕ → Type 0
InRecord k = 4 * k + 4 ≤ ledger_record_bytes

pub counter_in_record : (c : Counter) → InRecord (counter_word c)
counter_in_record writable = omega arith
counter_in_record executable = omega arith
counter_in_record linked = omega arith

pub counter_not_type : (c : Counter) → type_word ≢ counter_word c
counter_not_type writable = λ e. omega arith
counter_not_type executable = λ e. omega arith
counter_not_type linked = λ e. omega arith

pub counter_not_mark : (c : Counter) → mark_word ≢ counter_word c
counter_not_mark writable = λ e. omega arith
counter_not_mark executable = λ e. omega arith
counter_not_mark linked = λ e. omega arith

-- two words of records that are not the same lie apart
records_apart : (k b j c : ℕ) → InRecord k → InRecord j → (b ≡ c → k ≢ j)
    → ledger_head_bytes + ledger_record_bytes * c + 4 * j < ledger_head_bytes + ledger_record_bytes * b + 4 * k + 4 → ledger_head_bytes + ledger_record_bytes * c + 4 * j + 4 ≤ ledger_head_bytes + ledger_record_bytes * b + 4 * k
records_apart k b j c ik ij o l =
    ⊎_elim (λ (s : c < b). omega arith)
    (λ (s : b ≤ c). ⊎_elim (λ (t : b < c). omega arith) (λ (t : c ≤ b). let d = o (omega arith) in omega arith) (below_or_above b c))
    (below_or_above c b)

module _ (led : List ℕ) (k b v : ℕ) where
  pub length-put_record_word : length (put_record_word led k b v) ≡ length led
  unfolding put_record_word
  length-put_record_word = length-put_word led (ledger_head_bytes + ledger_record_bytes * b + 4 * k) v

  pub head_put_record_word : (a : ℕ) → a + 4 ≤ ledger_head_bytes → word (put_record_word led k b v) a ≡ word led a
  unfolding put_record_word
  head_put_record_word a h = word-put_word_other led (ledger_head_bytes + ledger_record_bytes * b + 4 * k) v a (λ l. omega arith)

  pub kinds_put_record_word : kinds_of (put_record_word led k b v) ≡ kinds_of led
  unfolding put_record_word
  kinds_put_record_word = kinds_put_word led (ledger_head_bytes + ledger_record_bytes * b + 4 * k) v (inr (omega arith))

  pub record_word_put_same : InRecord k → (n : ℕ) → length led ≡ ledger_head_bytes + ledger_record_bytes * n → b < n → v < 2 ^ 32 → record_word (put_record_word led k b v) k b ≡ v
  unfolding record_word put_record_word
  record_word_put_same i n e l h = word-put_word_same led (ledger_head_bytes + ledger_record_bytes * b + 4 * k) v (omega arith) h

  -- a word of another record, or another word of this one
  pub record_word_put_other : (j c : ℕ) → InRecord k → InRecord j → (b ≡ c → k ≢ j) → record_word (put_record_word led k b v) j c ≡ record_word led j c
  unfolding record_word put_record_word
  record_word_put_other j c ik ij o = word-put_word_other led (ledger_head_bytes + ledger_record_bytes * b + 4 * k) v (ledger_head_bytes + ledger_record_bytes * c + 4 * j) (records_apart k b j c ik ij o)

-- a word before the records
pub record_word_put_head : (led : List ℕ) (a v k b : ℕ) → a + 4 ≤ ledger_head_bytes → record_word (put_word led a v) k b ≡ record_word led k b
unfolding record_word
record_word_put_head led a v k b h = word-put_word_other led a v (ledger_head_bytes + ledger_record_bytes * b + 4 * k) (λ l. omega arith)

-- sixteen bytes stored as the kinds
module _ (led kinds : List ℕ) (sixteen : length kinds ≡ kinds_bytes) where
  pub record_word_put_kinds : (k b : ℕ) → record_word (put_list led kinds_place kinds) k b ≡ record_word led k b
  unfolding record_word
  record_word_put_kinds k b = word_cong (put_list led kinds_place kinds) led (ledger_head_bytes + ledger_record_bytes * b + 4 * k) (λ i lo hi. get_or-put_list_other led kinds_place kinds i (λ h. omega arith))

  pub kinds_put : ledger_head_bytes ≤ length led → kinds_of (put_list led kinds_place kinds) ≡ kinds
  unfolding kinds_of
  kinds_put h = rw sixteen at (part-put_list led kinds_place kinds (omega arith))

-- Types

module _ {A : Type 0} (P : List ℕ → A) (led : List ℕ) where
  -- whatever every store of a type leaves alone is left alone
  retype_keeps : (b m t : ℕ) → ((l : List ℕ) (c : ℕ) → b ≤ c → c < b + m → P (put_record_word l type_word c t) ≡ P l) → P (retype led b m t) ≡ P led
  unfolding retype
  retype_keeps b zero t h = refl
  retype_keeps b (suc m) t h = h (retype led b m t) (b + m) (omega arith) (omega arith) ∙ retype_keeps b m t (λ l c lo hi. h l c lo (omega arith))

  -- and so with the counters
  recount_keeps : (n : ℕ) (f : Counter → ℕ → ℕ) → ((l : List ℕ) (c : Counter) (b v : ℕ) → b < n → P (put_record_word l (counter_word c) b v) ≡ P l) → P (recount led n f) ≡ P led
  unfolding recount
  recount_keeps zero f h = refl
  recount_keeps (suc n) f h =
      h _ linked n _ (omega arith) ∙ h _ executable n _ (omega arith) ∙ h (recount led n f) writable n _ (omega arith)
      ∙ recount_keeps n f (λ l c b v i. h l c b v (omega arith))

module _ (led : List ℕ) (b m t : ℕ) where
  pub length-retype : length (retype led b m t) ≡ length led
  length-retype = retype_keeps length led b m t (λ l c lo hi. length-put_record_word l type_word c t)

  pub head_retype : (a : ℕ) → a + 4 ≤ ledger_head_bytes → word (retype led b m t) a ≡ word led a
  head_retype a h = retype_keeps (λ l. word l a) led b m t (λ l c lo hi. head_put_record_word l type_word c t a h)

  pub kinds_retype : kinds_of (retype led b m t) ≡ kinds_of led
  kinds_retype = retype_keeps kinds_of led b m t (λ l c lo hi. kinds_put_record_word l type_word c t)

  pub counter-retype : (c : Counter) (j : ℕ) → record_word (retype led b m t) (counter_word c) j ≡ record_word led (counter_word c) j
  counter-retype c j =
      retype_keeps (λ l. record_word l (counter_word c) j) led b m t
      (λ l i lo hi. record_word_put_other l type_word i t (counter_word c) j (omega arith) (counter_in_record c) (λ e. counter_not_type c))

  pub mark_retype : (j : ℕ) → record_word (retype led b m t) mark_word j ≡ record_word led mark_word j
  mark_retype j =
      retype_keeps (λ l. record_word l mark_word j) led b m t
      (λ l i lo hi. record_word_put_other l type_word i t mark_word j (omega arith) (omega arith) (λ e z. omega arith))

  pub type_retype_out : (j : ℕ) → (b ≤ j → b + m ≤ j) → record_word (retype led b m t) type_word j ≡ record_word led type_word j
  type_retype_out j o =
      retype_keeps (λ l. record_word l type_word j) led b m t
      (λ l i lo hi. record_word_put_other l type_word i t type_word j (omega arith) (omega arith) (λ e z. omega (arith, o (omega arith))))

pub type_retype_in : (led : List ℕ) (b m t n j : ℕ) → length led ≡ ledger_head_bytes + ledger_record_bytes * n → b + m ≤ n → t < 2 ^ 32 → b ≤ j → j < b + m
    → record_word (retype led b m t) type_word j ≡ t
unfolding retype
type_retype_in led b zero t n j e f h lo hi = let z : ⊥ = omega arith in absurd z
type_retype_in led b (suc m) t n j e f h lo hi =
    ⊎_elim
    (λ (q : j ≡ b + m). rw q (record_word_put_same (retype led b m t) type_word (b + m) t (omega arith) n (length-retype led b m t ∙ e) (omega arith) h))
    (λ (l : j < b + m).
    record_word_put_other (retype led b m t) type_word (b + m) t type_word j (omega arith) (omega arith) (λ q z. omega arith)
    ∙ type_retype_in led b m t n j e (omega arith) h lo l)
    (last_or_below {i = j} {n = b + m} (omega arith))

-- Counters

module _ (led : List ℕ) (n : ℕ) (f : Counter → ℕ → ℕ) where
  pub length-recount : length (recount led n f) ≡ length led
  length-recount = recount_keeps length led n f (λ l c b v i. length-put_record_word l (counter_word c) b v)

  pub head_recount : (a : ℕ) → a + 4 ≤ ledger_head_bytes → word (recount led n f) a ≡ word led a
  head_recount a h = recount_keeps (λ l. word l a) led n f (λ l c b v i. head_put_record_word l (counter_word c) b v a h)

  pub kinds_recount : kinds_of (recount led n f) ≡ kinds_of led
  kinds_recount = recount_keeps kinds_of led n f (λ l c b v i. kinds_put_record_word l (counter_word c) b v)

  pub type_recount : (j : ℕ) → record_word (recount led n f) type_word j ≡ record_word led type_word j
  type_recount j =
      recount_keeps (λ l. record_word l type_word j) led n f
      (λ l c b v i. record_word_put_other l (counter_word c) b v type_word j (counter_in_record c) (omega arith) (λ e z. counter_not_type c (sym z)))

  pub mark_recount : (j : ℕ) → record_word (recount led n f) mark_word j ≡ record_word led mark_word j
  mark_recount j =
      recount_keeps (λ l. record_word l mark_word j) led n f
      (λ l c b v i. record_word_put_other l (counter_word c) b v mark_word j (counter_in_record c) (omega arith) (λ e z. counter_not_mark c (sym z)))

-- the counters of one block
module _ (led : List ℕ) (b : ℕ) (f : Counter → ℕ) where
  one : List ℕ
  one = put_record_word led (counter_word writable) b (f writable)

  two : List ℕ
  two = put_record_word one (counter_word executable) b (f executable)

  passes_over : (l : List ℕ) (v : ℕ) (c d : Counter) (j : ℕ) → (b ≡ j → counter_word c ≢ counter_word d)
      → record_word (put_record_word l (counter_word c) b v) (counter_word d) j ≡ record_word l (counter_word d) j
  passes_over l v c d j = record_word_put_other l (counter_word c) b v (counter_word d) j (counter_in_record c) (counter_in_record d)

  counter_put_other : (c : Counter) (j : ℕ) → b ≢ j → record_word (put_counters led b f) (counter_word c) j ≡ record_word led (counter_word c) j
  unfolding one two
  counter_put_other c j o =
      passes_over two (f linked) linked c j (λ e. absurd (o e)) ∙ passes_over one (f executable) executable c j (λ e. absurd (o e))
      ∙ passes_over led (f writable) writable c j (λ e. absurd (o e))

  counter_put_same : (n : ℕ) → length led ≡ ledger_head_bytes + ledger_record_bytes * n → b < n → (c : Counter) → f c < 2 ^ 32 → record_word (put_counters led b f) (counter_word c) b ≡ f c
  unfolding one two
  counter_put_same n e l writable h =
      passes_over two (f linked) linked writable b (λ _ z. omega arith) ∙ passes_over one (f executable) executable writable b (λ _ z. omega arith)
      ∙ record_word_put_same led (counter_word writable) b (f writable) (omega arith) n e l h
  counter_put_same n e l executable h =
      passes_over two (f linked) linked executable b (λ _ z. omega arith)
      ∙ record_word_put_same one (counter_word executable) b (f executable) (omega arith) n (length-put_record_word led 1 b (f writable) ∙ e) l h
  counter_put_same n e l linked h =
      record_word_put_same two (counter_word linked) b (f linked) (omega arith) n
      (length-put_record_word one 2 b (f executable) ∙ length-put_record_word led 1 b (f writable) ∙ e) l h

pub counter-recount : (led : List ℕ) (k n : ℕ) (f : Counter → ℕ → ℕ) → length led ≡ ledger_head_bytes + ledger_record_bytes * n → k ≤ n → (c : Counter) (b : ℕ) → b < k → f c b < 2 ^ 32
    → record_word (recount led k f) (counter_word c) b ≡ f c b
unfolding recount
counter-recount led zero n f e le c b l h = let z : ⊥ = omega arith in absurd z
counter-recount led (suc k) n f e le c b l h =
    ⊎_elim
    (λ (q : b ≡ k). rw q (counter_put_same (recount led k f) k (λ d. f d k) n (length-recount led k f ∙ e) (omega arith) c (rw q at h)))
    (λ (s : b < k). counter_put_other (recount led k f) k (λ d. f d k) c b (λ q. omega arith) ∙ counter-recount led k n f e (omega arith) c b s h)
    (last_or_below l)

-- Marks

-- two ledgers that differ in marks only
pub record OnlyMarks (led after : List ℕ) : Type 0 where
  pub length_is : length after ≡ length led
  pub head_is : (a : ℕ) → a + 4 ≤ ledger_head_bytes → word after a ≡ word led a
  pub kinds_are : kinds_of after ≡ kinds_of led
  pub type_is : (b : ℕ) → record_word after type_word b ≡ record_word led type_word b
  pub counter_is : (c : Counter) (b : ℕ) → record_word after (counter_word c) b ≡ record_word led (counter_word c) b

marks_put : (led : List ℕ) (b v : ℕ) → OnlyMarks led (put_record_word led mark_word b v)
marks_put led b v =
    record {
      length_is = length-put_record_word led mark_word b v;
      head_is = head_put_record_word led mark_word b v;
      kinds_are = kinds_put_record_word led mark_word b v;
      type_is = λ j. record_word_put_other led mark_word b v type_word j (omega arith) (omega arith) (λ _ e. omega arith);
      counter_is = λ c j. record_word_put_other led mark_word b v (counter_word c) j (omega arith) (counter_in_record c) (λ _. counter_not_mark c);
    }

pub marks_none : (led : List ℕ) → OnlyMarks led led
marks_none led = record { length_is = refl; head_is = λ a h. refl; kinds_are = refl; type_is = λ b. refl; counter_is = λ c b. refl }

pub marks_both : {led middle after : List ℕ} → OnlyMarks led middle → OnlyMarks middle after → OnlyMarks led after
marks_both f g =
    record {
      length_is = g.length_is ∙ f.length_is;
      head_is = λ a h. g.head_is a h ∙ f.head_is a h;
      kinds_are = g.kinds_are ∙ f.kinds_are;
      type_is = λ b. g.type_is b ∙ f.type_is b;
      counter_is = λ c b. g.counter_is c b ∙ f.counter_is c b;
    }

-- the mark of a block that was cleared, and of another
module _ (led : List ℕ) (b : ℕ) where
  pub marks_clear : OnlyMarks led (clear_mark led b)
  marks_clear = marks_put led b 0

  pub mark_cleared : (n : ℕ) → length led ≡ ledger_head_bytes + ledger_record_bytes * n → b < n → record_word (clear_mark led b) mark_word b ≡ 0
  mark_cleared n e l = record_word_put_same led mark_word b 0 (omega arith) n e l (omega arith)

  pub mark_clear_other : (j : ℕ) → b ≢ j → record_word (clear_mark led b) mark_word j ≡ record_word led mark_word j
  mark_clear_other j o = record_word_put_other led mark_word b 0 mark_word j (omega arith) (omega arith) (λ e. absurd (o e))

module _ (led : List ℕ) (b : ℕ) where
  pub marks_clear_all : (m : ℕ) → OnlyMarks led (clear_marks led b m)
  unfolding clear_marks
  marks_clear_all zero = marks_none led
  marks_clear_all (suc m) = marks_both (marks_clear_all m) (marks_clear (clear_marks led b m) (b + m))

  pub mark_all_cleared : (m n : ℕ) → length led ≡ ledger_head_bytes + ledger_record_bytes * n → b + m ≤ n → (j : ℕ) → b ≤ j → j < b + m → record_word (clear_marks led b m) mark_word j ≡ 0
  unfolding clear_marks
  mark_all_cleared zero n e le j lo hi = let z : ⊥ = omega arith in absurd z
  mark_all_cleared (suc m) n e le j lo hi =
      ⊎_elim
      (λ (q : j ≡ b + m). rw q (mark_cleared (clear_marks led b m) (b + m) n ((marks_clear_all m).length_is ∙ e) (omega arith)))
      (λ (s : j < b + m). mark_clear_other (clear_marks led b m) (b + m) j (λ q. omega arith) ∙ mark_all_cleared m n e (omega arith) j lo s)
      (last_or_below {i = j} {n = b + m} (omega arith))

  pub mark_not_cleared : (m j : ℕ) → (b ≤ j → b + m ≤ j) → record_word (clear_marks led b m) mark_word j ≡ record_word led mark_word j
  unfolding clear_marks
  mark_not_cleared zero j o = refl
  mark_not_cleared (suc m) j o = mark_clear_other (clear_marks led b m) (b + m) j (λ q. omega (arith, o (omega arith))) ∙ mark_not_cleared m j (λ h. omega (arith, o h))

module _ (led : List ℕ) (q : ℕ → Bool) where
  pub marks_set : (n : ℕ) → OnlyMarks led (mark_blocks led n q)
  unfolding mark_blocks
  marks_set zero = marks_none led
  marks_set (suc n) = go (marks_set n) (q n) where
    go : OnlyMarks led (mark_blocks led n q) → (t : Bool) → OnlyMarks led (cond t (put_record_word (mark_blocks led n q) mark_word n mark_value) (mark_blocks led n q))
    go before true = marks_both before (marks_put (mark_blocks led n q) n mark_value)
    go before false = before

  -- a block that is marked afterwards has q, or was marked before
  pub mark_set : (n b : ℕ) → record_word (mark_blocks led n q) mark_word b ≡ mark_value → (q b ≡ true) ⊎ (record_word led mark_word b ≡ mark_value)
  unfolding mark_blocks
  mark_set zero b e = inr e
  mark_set (suc n) b e = go (q n) refl (ℕ_discrete b n) (mark_set n b) e where
    go : (t : Bool) → q n ≡ t → Dec (b ≡ n) → (record_word (mark_blocks led n q) mark_word b ≡ mark_value → (q b ≡ true) ⊎ (record_word led mark_word b ≡ mark_value))
        → record_word (cond t (put_record_word (mark_blocks led n q) mark_word n mark_value) (mark_blocks led n q)) mark_word b ≡ mark_value
        → (q b ≡ true) ⊎ (record_word led mark_word b ≡ mark_value)
    go false is z before e = before e
    go true is (yes z) before e = inl (rw z is)
    go true is (no o) before e = before (sym (record_word_put_other (mark_blocks led n q) mark_word n mark_value mark_word b (omega arith) (omega arith) (λ z. absurd (o (sym z)))) ∙ e)

-- What the steps told of types

module _ (types : ℕ → ℕ) (p m t b : ℕ) where
  pub typed_in : p ≤ b → b < p + m → typed types p m t b ≡ t
  unfolding typed
  typed_in lo hi = rw (among_in p m b lo hi) refl

  pub typed_out : (p ≤ b → p + m ≤ b) → typed types p m t b ≡ types b
  unfolding typed
  typed_out o = rw (among_out p m b o) refl
