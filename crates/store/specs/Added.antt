-- A table with records added in place to a section, whose heading is as it was read.
use Rattle.std.specs.Prelude.{Bool, cond, List, [], ◌∷◌, ◌++◌, ltb, ℕ, ◌+◌, ◌*◌}
use Rattle.xdr.specs.Words.{put_words}
use Rattle.rules.specs.Table.{heading, width}
use Rattle.events.specs.declared.Event.{Event}
use Rattle.events.specs.declared.Event.TheVariants.{Forced, Received}
use Rattle.events.specs.Events.{words_of}
use Rattle.layout.specs.declared.Section.{Section}

-- one record, by its words; x and s are the number and the count of sends after it
abbrev pub with_record : List ℕ → Section → ℕ → ℕ → List ℕ → List ℕ
with_record t section x s words =
    put_words (put_words t section.at ((section.count + 1) ∷ x ∷ s ∷ [])) (section.at + heading + width * section.count) words

-- a forced checkpoint with number m, then a receipt
abbrev pub with_forced : List ℕ → Section → ℕ → Event → List ℕ
with_forced t section m receipt =
    put_words (put_words t section.at ((section.count + 2) ∷ m ∷ section.sends ∷ [])) (section.at + heading + width * section.count)
    (words_of (Forced m) ++ words_of receipt)

-- a receipt forces where it carries more than the section's number
abbrev pub forces : Section → ℕ → Bool
forces section m = ltb section.number m

-- the receipt of (q, k), which carries m
abbrev pub with_receipt : List ℕ → Section → ℕ → ℕ → ℕ → List ℕ
with_receipt t section m q k =
    let receipt = Received q k m in
    cond (forces section m) (with_forced t section m receipt) (with_record t section section.number section.sends (words_of receipt))
