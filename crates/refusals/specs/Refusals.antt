-- The numbers that document 01 gives to its checks, and document 02 to four more.
use Rattle.std.specs.Prelude.{ℕ, Result, Ok, Err}
use Rattle.refusals.specs.declared.Refusal.{Refusal}
use Rattle.refusals.specs.declared.Refusal.TheVariants.{BadDimensions, BadTableLength, NotWellLaid, BadAreaLength, BadProcess, BadOtherProcess, NotSent, AlreadyReceived, NoRecordsLeft, NumberAtLimit, BadMask, BadPositions, AreaTooShort, BadScratch, NoSavedState}

abbrev pub number_of : Refusal → ℕ
number_of BadDimensions = 1
number_of BadTableLength = 2
number_of NotWellLaid = 3
number_of BadAreaLength = 4
number_of BadProcess = 5
number_of BadOtherProcess = 6
number_of NotSent = 7
number_of AlreadyReceived = 8
number_of NoRecordsLeft = 9
number_of NumberAtLimit = 10
number_of BadMask = 11
number_of BadPositions = 12
number_of AreaTooShort = 13
number_of BadScratch = 14
number_of NoSavedState = 15

-- what a call returns: the number of its refusal, 0 where it was accepted
abbrev pub returned : {A : Type 0} → Result A Refusal → ℕ
returned (Ok x) = 0
returned (Err r) = number_of r
