-- What the values of the enums in the code mean (RULES: forms, entries).
use Rattle.entries.specs.declared.entry.Entry as entry
use Rattle.entries.specs.declared.entry.Entry.TheVariants.{Fault, Unaccepted, Link, Section, Page, Large}
use Rattle.entries.specs.declared.entry.Level as level
use Rattle.entries.specs.declared.entry.Level.TheVariants.{L1, L2}
use Rattle.entries.specs.declared.rights.Right as right
use Rattle.entries.specs.declared.rights.Right.TheVariants.{Read, Write, Execute}
use Rattle.entries.specs.Rights as rights
use Rattle.entries.specs.Rights.{read, write, execute}
use Rattle.entries.specs.Entries.{Entry, fault, unaccepted, link, section, page, large, Level, l1, l2}

-- forms 8, forms 9: the entry that a value stands for
abbrev pub meaning : entry.Entry → Entry
meaning Fault = fault
meaning Unaccepted = unaccepted
meaning (Link p) = link p
meaning (Section m) = section m.first m.rights
meaning (Page m) = page m.first m.rights
meaning (Large m) = large m.first m.rights

-- forms 9: the level that a value stands for
abbrev pub level_of : level.Level → Level
level_of L1 = l1
level_of L2 = l2

-- forms 9: the right that a value stands for
abbrev pub right_of : right.Right → rights.Right
right_of Read = read
right_of Write = write
right_of Execute = execute
