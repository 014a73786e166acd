-- `entries::table::page_rights_at` meets its contract: AP and XN decide the number of a page, and each arm reads a page that has them.
use mathlib.Core.Path.{◌≡◌, ◌∙◌}
use Prim.Native.Nat.{ℕ}
use Rattle.words.specs.Bounded.{num}
use Rattle.entries.specs.Rights.{may_read, may_write, may_execute, rights_of}
use Rattle.entries.specs.Entries.{page_code}
use Rattle.entries.specs.Needs.{packed_at}
use Rattle.entries.proofs.Decoding.{access_code, page_code_page}
use Rattle.entries.proofs.table.page_rights_at.Goals as goal
use Rattle.entries.proofs.table.page_rights_at.Goals.{After-access_of}

read : (c : After-access_of) (n : ℕ) → c.access_of.result ≡ n → access_code n ≡ page_code c.args.low
read c n e = page_code_page c.args.low c.access_of.result n c.requires.1 c.access_of.ensures e

pub returns-in-0 : goal.returns-in-0
unfolding access_code packed_at rights_of may_read may_write may_execute num
returns-in-0 c = c.packed_at.ensures ∙ read c.before.before 0 c.in-0.is

pub returns-in-1 : goal.returns-in-1
unfolding access_code packed_at rights_of may_read may_write may_execute num
returns-in-1 c = c.packed_at-in-1.ensures ∙ read c.before.before 1 c.in-1.is

pub returns-in-2 : goal.returns-in-2
unfolding access_code packed_at rights_of may_read may_write may_execute num
returns-in-2 c = c.packed_at-in-2.ensures ∙ read c.before.before 2 c.in-2.is

pub returns-in-3 : goal.returns-in-3
unfolding access_code packed_at rights_of may_read may_write may_execute num
returns-in-3 c = c.packed_at-in-3.ensures ∙ read c.before.before 3 c.in-3.is

pub returns-in-4 : goal.returns-in-4
unfolding access_code packed_at rights_of may_read may_write may_execute num
returns-in-4 c = c.packed_at-in-4.ensures ∙ read c.before.before 4 c.in-4.is

pub returns-in-5 : goal.returns-in-5
unfolding access_code packed_at rights_of may_read may_write may_execute num
returns-in-5 c = c.packed_at-in-5.ensures ∙ read c.before.before 5 c.in-5.is

pub returns-in-6 : goal.returns-in-6
unfolding access_code packed_at rights_of may_read may_write may_execute num
returns-in-6 c = c.packed_at-in-6.ensures ∙ read c.before.before 6 c.in-6.is

pub returns-in-7 : goal.returns-in-7
unfolding access_code packed_at rights_of may_read may_write may_execute num
returns-in-7 c = c.packed_at-in-7.ensures ∙ read c.before.before 7 c.in-7.is

pub returns-in-8 : goal.returns-in-8
unfolding access_code packed_at rights_of may_read may_write may_execute num
returns-in-8 c = c.packed_at-in-8.ensures ∙ read c.before.before 8 c.in-8.is

pub returns-in-9 : goal.returns-in-9
unfolding access_code packed_at rights_of may_read may_write may_execute num
returns-in-9 c = c.packed_at-in-9.ensures ∙ read c.before.before 9 c.in-9.is

pub returns-in-10 : goal.returns-in-10
unfolding access_code packed_at rights_of may_read may_write may_execute num
returns-in-10 c = c.packed_at-in-10.ensures ∙ read c.before.before 10 c.in-10.is

pub returns-in-11 : goal.returns-in-11
unfolding access_code packed_at rights_of may_read may_write may_execute num
returns-in-11 c = c.packed_at-in-11.ensures ∙ read c.before.before 11 c.in-11.is

pub returns-in-12 : goal.returns-in-12
unfolding access_code packed_at rights_of may_read may_write may_execute num
returns-in-12 c = c.packed_at-in-12.ensures ∙ read c.before.before 12 c.in-12.is

pub returns-in-13 : goal.returns-in-13
unfolding access_code packed_at rights_of may_read may_write may_execute num
returns-in-13 c = c.packed_at-in-13.ensures ∙ read c.before.before 13 c.in-13.is

pub returns-in-14 : goal.returns-in-14
unfolding access_code packed_at rights_of may_read may_write may_execute num
returns-in-14 c = c.packed_at-in-14.ensures ∙ read c.before.before 14 c.in-14.is

pub returns-in-15 : goal.returns-in-15
unfolding access_code packed_at rights_of may_read may_write may_execute num
returns-in-15 c = c.packed_at-in-15.ensures ∙ read c.before.before 15 c.in-15.is
