-- What the values of the enums in the code mean (RULES: forms).
use Rattle.rules.specs.Store as store
use Rattle.rules.specs.Store.{writable, executable, linked}
use Rattle.rules.specs.General as general
use Rattle.rules.specs.General.{added, removed}
use Rattle.ledger.specs.declared.counters.Change as change
use Rattle.ledger.specs.declared.counters.Change.TheVariants.{Added, Removed}
use Rattle.ledger.specs.declared.counters.Counter as counter
use Rattle.ledger.specs.declared.counters.Counter.TheVariants.{Writable, Executable, Linked}

-- forms 9: the change of counters that a value stands for
abbrev pub change_of : change.Change → general.Change
change_of Added = added
change_of Removed = removed

-- forms 9: the counter that a value stands for
abbrev pub counter_of : counter.Counter → store.Counter
counter_of Writable = writable
counter_of Executable = executable
counter_of Linked = linked
