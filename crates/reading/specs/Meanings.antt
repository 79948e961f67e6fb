-- What document 01 says of each word and of each case of a call.
use Rattle.std.specs.Prelude.{Result, Ok, Err}
use Rattle.rules.specs.Steps.{checkpoint, send, receipt}
use Rattle.rules.specs.Text as text
use Rattle.fields.specs.declared.Unreadable.{Unreadable}
use Rattle.reading.specs.declared.Word.{Word}
use Rattle.reading.specs.declared.Word.TheVariants as word
use Rattle.reading.specs.declared.Call.{Call}
use Rattle.reading.specs.declared.Call.TheVariants as call

-- the word of a line, in document 01's terms
abbrev pub word_as : Result Word Unreadable → text.Word
word_as (Ok word.Fresh) = text.fresh_word
word_as (Ok word.Checkpoint) = text.checkpoint_word
word_as (Ok word.Send) = text.send_word
word_as (Ok word.Receipt) = text.receipt_word
word_as (Ok word.Line) = text.line_word
word_as (Ok word.Failed) = text.failed_word
word_as (Err e) = text.no_word

-- the call of a line, in document 01's terms: the word and the numbers of each case
abbrev pub ask_of : Call → text.Ask
ask_of (call.Fresh n e) = text.fresh n e
ask_of (call.Checkpoint p) = text.step p checkpoint
ask_of (call.Send p q) = text.step p (send q)
ask_of (call.Receipt p q k) = text.step p (receipt q k)
ask_of (call.Line number) = text.line number
ask_of (call.Failed mask) = text.failed mask

-- what a line says, in document 01's terms
abbrev pub reading_of : Result Call Unreadable → text.Reading
reading_of (Ok c) = text.call (ask_of c)
reading_of (Err e) = text.unreadable
