-- The word is stored at its place in the record.
use borrow.Author.Rules.{rules}
use Rattle.rules.specs.Store.{put_record_word}
use Rattle.ledger.proofs.layout.put_record_word.Goals as goal

pub returns : goal.returns
unfolding put_record_word
returns c = search rules
