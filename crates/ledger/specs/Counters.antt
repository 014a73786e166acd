-- Counters of adjacent blocks to which an entry grants something: their bounds, and their change by one (RULES: ledger, refusal).
use Rattle.std.specs.Prelude.{Bool, cond, ◌&&◌, ◌||◌, List, ◌≡◌, ℕ, zero, suc, ◌+◌, ◌-◌}
use Rattle.words.specs.Bounded.{above, among, num}
use Rattle.entries.specs.Entries.{Entry, cover_first, cover_blocks}
use Rattle.rules.specs.Store.{counter_limit, Counter, counter_word, some_counter, record_word, put_record_word, some_block}
use Rattle.rules.specs.Tables.{grants, gain}
use Rattle.rules.specs.General.{Change, added, removed, end_value}
use Rattle.ledger.specs.Needs.{record_of}

-- ledger 7: the n entries x give what e grants, once, to each of the m blocks from p on, and nothing else
pub record Spreads (n : ℕ) (x : ℕ → Entry) (e : Entry) (p m : ℕ) : Type 0 where
  pub gains : (c : Counter) (q : ℕ) → gain n x c q ≡ num (grants c e && among p m q)

-- x is below least or above most
abbrev pub beyond : ℕ → ℕ → ℕ → Bool
beyond least most x = above least x || above x most

-- refusal 13: c, which the entry grants, is beyond these bounds on some of the m blocks from p on; no meaning for blocks below B
unfoldable pub counter_beyond : ℕ → ℕ → List ℕ → Counter → Entry → ℕ → ℕ → Bool
counter_beyond least most ledger c e p m = grants c e && some_block p m (λ b. beyond least most (record_word ledger (counter_word c) (record_of ledger b)))

-- refusal 13: some counter that the entry grants is beyond these bounds on some of the m blocks from p on
unfoldable pub blocks_beyond : ℕ → ℕ → List ℕ → Entry → ℕ → ℕ → Bool
blocks_beyond least most ledger e p m = some_counter (λ c. counter_beyond least most ledger c e p m)

-- refusal 13: some counter that the entry grants is beyond these bounds on some block that it covers
abbrev pub entry_beyond : ℕ → ℕ → List ℕ → Entry → Bool
entry_beyond least most ledger e = blocks_beyond least most ledger e (cover_first e) (cover_blocks e)

-- refusal 13: the least value from which a counter can change by one
abbrev pub least_before : Change → ℕ
least_before added = 0
least_before removed = 1

-- refusal 13, ledger 8: the greatest value from which a counter can change by one
abbrev pub most_before : Change → ℕ
most_before added = counter_limit - 1
most_before removed = counter_limit + 1

-- ledger 7: word k of m records, from record b on, each changed by one; no meaning where one is taken from 0
unfoldable pub changed : Change → List ℕ → ℕ → ℕ → ℕ → List ℕ
changed d ledger k b zero = ledger
changed d ledger k b (suc m) = put_record_word (changed d ledger k b m) k (b + m) (end_value d (record_word ledger k (b + m)) 1)

-- ledger 7: c of the m blocks from p on, each changed by one if the entry grants it; no meaning for blocks below B
unfoldable pub changed_counter : Change → List ℕ → Counter → Entry → ℕ → ℕ → List ℕ
changed_counter d ledger c e p m = cond (grants c e) (changed d ledger (counter_word c) (record_of ledger p) m) ledger
