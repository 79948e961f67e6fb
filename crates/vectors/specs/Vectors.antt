-- Vectors for the rules. Generated: `cargo run -p vectors` in tests/ prints this file. Every number, table and answer below comes from
-- the reference engine in tests/reference, but the cuts of the last two groups from a search of all cuts in tests/cases; neither shares
-- anything with the definitions that are tried here.
use Rattle.std.specs.Prelude.{refl, true, false, List, [], ◌∷◌, ◌++◌, ℕ}
use Rattle.std.specs.Int.Count.{ones, ones_in}
use Rattle.xdr.specs.Words.{word, put_word, put_words, bytes}
use Rattle.rules.specs.Table.{layout, decoded, well_laid}
use Rattle.rules.specs.Steps.{checkpoint, send, receipt}
use Rattle.rules.specs.FailureLine.{round, rounds, failure_line}
use Rattle.rules.specs.Calls.{failure_answer, fresh_on, step_on, line_on, failed_on}
use Rattle.rules.specs.Text.{fresh, step, line, failed}
use Rattle.rules.specs.Grounds.{grounds, grounds_on}
use Rattle.rules.specs.Resend.{in_transit, resend_on}
use Rattle.rules.specs.Lists.{check}
use Rattle.rules.specs.Audit.{advance, sweep, sweeps, replayed, audited, audit_on}
use Rattle.vectors.specs.Try.{Script, script, refused, accepted, grounded, resend, audit, lent, Agree, Saves, saves, save, AgreeSaves}

abbrev table0 : List ℕ
table0 = bytes (3 ∷ 6 ∷ 0 ∷ 0 ∷ 0 ∷ 0 ∷ 0 ∷ 0 ∷ 0 ∷ 0 ∷ 0 ∷ 0 ∷ 0 ∷ 0 ∷ 0 ∷ 0 ∷ 0 ∷ 0 ∷ 0 ∷ 0 ∷ 0 ∷ 0 ∷ 0 ∷ 0 ∷ 0 ∷ 0 ∷ 0 ∷ 0 ∷ 0 ∷ 0 ∷ 0 ∷ 0 ∷ 0 ∷ 0 ∷ 0 ∷ 0
    ∷ 0 ∷ 0 ∷ 0 ∷ 0 ∷ 0 ∷ 0 ∷ 0 ∷ 0 ∷ 0 ∷ 0 ∷ 0 ∷ 0 ∷ 0 ∷ 0 ∷ 0 ∷ 0 ∷ 0 ∷ 0 ∷ 0 ∷ 0 ∷ 0 ∷ 0 ∷ 0 ∷ 0 ∷ 0 ∷ 0 ∷ 0 ∷ 0 ∷ 0 ∷ 0 ∷ 0 ∷ 0 ∷ 0 ∷ 0 ∷ 0 ∷ 0 ∷ 0 ∷ 0
    ∷ 0 ∷ 0 ∷ 0 ∷ 0 ∷ 0 ∷ 0 ∷ 0 ∷ 0 ∷ 0 ∷ [])

abbrev table1 : List ℕ
table1 = bytes (3 ∷ 6 ∷ 1 ∷ 1 ∷ 0 ∷ 1 ∷ 1 ∷ 0 ∷ 0 ∷ 0 ∷ 0 ∷ 0 ∷ 0 ∷ 0 ∷ 0 ∷ 0 ∷ 0 ∷ 0 ∷ 0 ∷ 0 ∷ 0 ∷ 0 ∷ 0 ∷ 0 ∷ 0 ∷ 0 ∷ 0 ∷ 0 ∷ 0 ∷ 0 ∷ 0 ∷ 0 ∷ 0 ∷ 0 ∷ 0 ∷ 0
    ∷ 0 ∷ 0 ∷ 0 ∷ 0 ∷ 0 ∷ 0 ∷ 0 ∷ 0 ∷ 0 ∷ 0 ∷ 0 ∷ 0 ∷ 0 ∷ 0 ∷ 0 ∷ 0 ∷ 0 ∷ 0 ∷ 0 ∷ 0 ∷ 0 ∷ 0 ∷ 0 ∷ 0 ∷ 0 ∷ 0 ∷ 0 ∷ 0 ∷ 0 ∷ 0 ∷ 0 ∷ 0 ∷ 0 ∷ 0 ∷ 0 ∷ 0 ∷ 0 ∷ 0
    ∷ 0 ∷ 0 ∷ 0 ∷ 0 ∷ 0 ∷ 0 ∷ 0 ∷ 0 ∷ 0 ∷ [])

abbrev table2 : List ℕ
table2 = bytes (3 ∷ 6 ∷ 2 ∷ 1 ∷ 1 ∷ 1 ∷ 1 ∷ 0 ∷ 0 ∷ 3 ∷ 1 ∷ 1 ∷ 1 ∷ 0 ∷ 0 ∷ 0 ∷ 0 ∷ 0 ∷ 0 ∷ 0 ∷ 0 ∷ 0 ∷ 0 ∷ 0 ∷ 0 ∷ 0 ∷ 0 ∷ 0 ∷ 0 ∷ 0 ∷ 0 ∷ 0 ∷ 0 ∷ 0 ∷ 0 ∷ 0
    ∷ 0 ∷ 0 ∷ 0 ∷ 0 ∷ 0 ∷ 0 ∷ 0 ∷ 0 ∷ 0 ∷ 0 ∷ 0 ∷ 0 ∷ 0 ∷ 0 ∷ 0 ∷ 0 ∷ 0 ∷ 0 ∷ 0 ∷ 0 ∷ 0 ∷ 0 ∷ 0 ∷ 0 ∷ 0 ∷ 0 ∷ 0 ∷ 0 ∷ 0 ∷ 0 ∷ 0 ∷ 0 ∷ 0 ∷ 0 ∷ 0 ∷ 0 ∷ 0 ∷ 0
    ∷ 0 ∷ 0 ∷ 0 ∷ 0 ∷ 0 ∷ 0 ∷ 0 ∷ 0 ∷ 0 ∷ [])

abbrev table3 : List ℕ
table3 = bytes (3 ∷ 6 ∷ 2 ∷ 1 ∷ 1 ∷ 1 ∷ 1 ∷ 0 ∷ 0 ∷ 3 ∷ 1 ∷ 1 ∷ 1 ∷ 0 ∷ 0 ∷ 0 ∷ 0 ∷ 0 ∷ 0 ∷ 0 ∷ 0 ∷ 0 ∷ 0 ∷ 0 ∷ 0 ∷ 0 ∷ 0 ∷ 0 ∷ 0 ∷ 1 ∷ 0 ∷ 1 ∷ 3 ∷ 2 ∷ 1 ∷ 0
    ∷ 0 ∷ 0 ∷ 0 ∷ 0 ∷ 0 ∷ 0 ∷ 0 ∷ 0 ∷ 0 ∷ 0 ∷ 0 ∷ 0 ∷ 0 ∷ 0 ∷ 0 ∷ 0 ∷ 0 ∷ 0 ∷ 0 ∷ 0 ∷ 0 ∷ 0 ∷ 0 ∷ 0 ∷ 0 ∷ 0 ∷ 0 ∷ 0 ∷ 0 ∷ 0 ∷ 0 ∷ 0 ∷ 0 ∷ 0 ∷ 0 ∷ 0 ∷ 0 ∷ 0
    ∷ 0 ∷ 0 ∷ 0 ∷ 0 ∷ 0 ∷ 0 ∷ 0 ∷ 0 ∷ 0 ∷ [])

abbrev table4 : List ℕ
table4 = bytes (3 ∷ 6 ∷ 2 ∷ 1 ∷ 1 ∷ 1 ∷ 1 ∷ 0 ∷ 0 ∷ 3 ∷ 1 ∷ 1 ∷ 1 ∷ 0 ∷ 0 ∷ 0 ∷ 0 ∷ 0 ∷ 0 ∷ 0 ∷ 0 ∷ 0 ∷ 0 ∷ 0 ∷ 0 ∷ 0 ∷ 0 ∷ 0 ∷ 0 ∷ 3 ∷ 1 ∷ 1 ∷ 3 ∷ 2 ∷ 1 ∷ 0
    ∷ 2 ∷ 1 ∷ 0 ∷ 0 ∷ 4 ∷ 0 ∷ 1 ∷ 1 ∷ 0 ∷ 0 ∷ 0 ∷ 0 ∷ 0 ∷ 0 ∷ 0 ∷ 0 ∷ 0 ∷ 0 ∷ 0 ∷ 0 ∷ 0 ∷ 0 ∷ 0 ∷ 0 ∷ 0 ∷ 0 ∷ 0 ∷ 0 ∷ 0 ∷ 0 ∷ 0 ∷ 0 ∷ 0 ∷ 0 ∷ 0 ∷ 0 ∷ 0 ∷ 0
    ∷ 0 ∷ 0 ∷ 0 ∷ 0 ∷ 0 ∷ 0 ∷ 0 ∷ 0 ∷ 0 ∷ [])

abbrev table5 : List ℕ
table5 = bytes (3 ∷ 6 ∷ 2 ∷ 1 ∷ 1 ∷ 1 ∷ 1 ∷ 0 ∷ 0 ∷ 3 ∷ 1 ∷ 1 ∷ 1 ∷ 0 ∷ 0 ∷ 0 ∷ 0 ∷ 0 ∷ 0 ∷ 0 ∷ 0 ∷ 0 ∷ 0 ∷ 0 ∷ 0 ∷ 0 ∷ 0 ∷ 0 ∷ 0 ∷ 4 ∷ 1 ∷ 2 ∷ 3 ∷ 2 ∷ 1 ∷ 0
    ∷ 2 ∷ 1 ∷ 0 ∷ 0 ∷ 4 ∷ 0 ∷ 1 ∷ 1 ∷ 3 ∷ 2 ∷ 2 ∷ 1 ∷ 0 ∷ 0 ∷ 0 ∷ 0 ∷ 0 ∷ 0 ∷ 0 ∷ 0 ∷ 0 ∷ 0 ∷ 0 ∷ 0 ∷ 0 ∷ 0 ∷ 0 ∷ 0 ∷ 0 ∷ 0 ∷ 0 ∷ 0 ∷ 0 ∷ 0 ∷ 0 ∷ 0 ∷ 0 ∷ 0
    ∷ 0 ∷ 0 ∷ 0 ∷ 0 ∷ 0 ∷ 0 ∷ 0 ∷ 0 ∷ 0 ∷ [])

abbrev table6 : List ℕ
table6 = bytes (3 ∷ 6 ∷ 2 ∷ 1 ∷ 1 ∷ 1 ∷ 1 ∷ 0 ∷ 0 ∷ 3 ∷ 1 ∷ 1 ∷ 1 ∷ 0 ∷ 0 ∷ 0 ∷ 0 ∷ 0 ∷ 0 ∷ 0 ∷ 0 ∷ 0 ∷ 0 ∷ 0 ∷ 0 ∷ 0 ∷ 0 ∷ 0 ∷ 0 ∷ 4 ∷ 1 ∷ 2 ∷ 3 ∷ 2 ∷ 1 ∷ 0
    ∷ 2 ∷ 1 ∷ 0 ∷ 0 ∷ 4 ∷ 0 ∷ 1 ∷ 1 ∷ 3 ∷ 2 ∷ 2 ∷ 1 ∷ 0 ∷ 0 ∷ 0 ∷ 0 ∷ 0 ∷ 0 ∷ 0 ∷ 0 ∷ 2 ∷ 1 ∷ 0 ∷ 2 ∷ 1 ∷ 0 ∷ 0 ∷ 4 ∷ 1 ∷ 2 ∷ 1 ∷ 0 ∷ 0 ∷ 0 ∷ 0 ∷ 0 ∷ 0 ∷ 0
    ∷ 0 ∷ 0 ∷ 0 ∷ 0 ∷ 0 ∷ 0 ∷ 0 ∷ 0 ∷ 0 ∷ [])

abbrev table7 : List ℕ
table7 = bytes (3 ∷ 6 ∷ 2 ∷ 1 ∷ 1 ∷ 1 ∷ 1 ∷ 0 ∷ 0 ∷ 3 ∷ 1 ∷ 1 ∷ 1 ∷ 0 ∷ 0 ∷ 0 ∷ 0 ∷ 0 ∷ 0 ∷ 0 ∷ 0 ∷ 0 ∷ 0 ∷ 0 ∷ 0 ∷ 0 ∷ 0 ∷ 0 ∷ 0 ∷ 4 ∷ 1 ∷ 2 ∷ 3 ∷ 2 ∷ 1 ∷ 0
    ∷ 2 ∷ 1 ∷ 0 ∷ 0 ∷ 4 ∷ 0 ∷ 1 ∷ 1 ∷ 3 ∷ 2 ∷ 2 ∷ 1 ∷ 0 ∷ 0 ∷ 0 ∷ 0 ∷ 0 ∷ 0 ∷ 0 ∷ 0 ∷ 3 ∷ 1 ∷ 0 ∷ 2 ∷ 1 ∷ 0 ∷ 0 ∷ 4 ∷ 1 ∷ 2 ∷ 1 ∷ 4 ∷ 1 ∷ 1 ∷ 0 ∷ 0 ∷ 0 ∷ 0
    ∷ 0 ∷ 0 ∷ 0 ∷ 0 ∷ 0 ∷ 0 ∷ 0 ∷ 0 ∷ 0 ∷ [])

-- The worked controller: its calls, then P1 to P10.
abbrev worked : List Script
worked = script (lent 332) (accepted (fresh 3 6) 0 [] table0 ∷ accepted (step 0 checkpoint) 4 (1 ∷ []) table1
    ∷ accepted (step 0 (send 1)) 8 (1 ∷ 1 ∷ []) table2 ∷ accepted (step 1 (send 2)) 8 (1 ∷ 0 ∷ []) table3
    ∷ accepted (step 1 (receipt 0 1)) 16 (1 ∷ 1 ∷ 2 ∷ 3 ∷ []) table4 ∷ accepted (step 1 (send 2)) 8 (2 ∷ 1 ∷ []) table5
    ∷ accepted (step 2 (receipt 1 2)) 16 (1 ∷ 1 ∷ 4 ∷ 2 ∷ []) table6 ∷ accepted (step 2 (receipt 1 1)) 16 (0 ∷ 0 ∷ 1 ∷ 3 ∷ []) table7
    ∷ accepted (line 0) 12 (0 ∷ 0 ∷ 0 ∷ []) table7 ∷ accepted (line 1) 12 (1 ∷ 2 ∷ 1 ∷ []) table7 ∷ refused (line 2) 12 15
    ∷ accepted (failed 0) 20 (2 ∷ 4 ∷ 3 ∷ 0 ∷ 0 ∷ []) table7 ∷ accepted (failed 1) 20 (1 ∷ 2 ∷ 1 ∷ 7 ∷ 3 ∷ []) table7
    ∷ accepted (failed 2) 20 (2 ∷ 2 ∷ 1 ∷ 6 ∷ 2 ∷ []) table7 ∷ accepted (failed 4) 20 (2 ∷ 4 ∷ 1 ∷ 4 ∷ 1 ∷ []) table7 ∷ refused (failed 8) 20 11
    ∷ refused (step 2 (receipt 1 1)) 16 8 ∷ refused (step 1 (receipt 0 2)) 16 7 ∷ []) ∷ []

pub worked_agree : Agree worked
unfolding fresh_on step_on line_on failed_on resend_on layout decoded well_laid word put_word put_words failure_answer failure_line rounds round ones ones_in in_transit
worked_agree = refl

abbrev table8 : List ℕ
table8 = bytes (2 ∷ 2 ∷ 0 ∷ 0 ∷ 0 ∷ 0 ∷ 0 ∷ 0 ∷ 0 ∷ 0 ∷ 0 ∷ 0 ∷ 0 ∷ 0 ∷ 0 ∷ 0 ∷ 0 ∷ 0 ∷ 0 ∷ 0 ∷ 0 ∷ 0 ∷ 0 ∷ 0 ∷ [])

abbrev table9 : List ℕ
table9 = bytes (2 ∷ 2 ∷ 1 ∷ 1 ∷ 0 ∷ 1 ∷ 1 ∷ 0 ∷ 0 ∷ 0 ∷ 0 ∷ 0 ∷ 0 ∷ 0 ∷ 0 ∷ 0 ∷ 0 ∷ 0 ∷ 0 ∷ 0 ∷ 0 ∷ 0 ∷ 0 ∷ 0 ∷ [])

abbrev table10 : List ℕ
table10 = bytes (2 ∷ 2 ∷ 2 ∷ 1 ∷ 1 ∷ 1 ∷ 1 ∷ 0 ∷ 0 ∷ 3 ∷ 1 ∷ 1 ∷ 1 ∷ 0 ∷ 0 ∷ 0 ∷ 0 ∷ 0 ∷ 0 ∷ 0 ∷ 0 ∷ 0 ∷ 0 ∷ 0 ∷ [])

abbrev table11 : List ℕ
table11 = bytes (2 ∷ 2 ∷ 2 ∷ 1 ∷ 1 ∷ 1 ∷ 1 ∷ 0 ∷ 0 ∷ 3 ∷ 1 ∷ 1 ∷ 1 ∷ 1 ∷ 0 ∷ 1 ∷ 3 ∷ 0 ∷ 1 ∷ 0 ∷ 0 ∷ 0 ∷ 0 ∷ 0 ∷ [])

abbrev table12 : List ℕ
table12 = bytes (1 ∷ 2 ∷ 1 ∷ 2 ∷ 0 ∷ 1 ∷ 2 ∷ 0 ∷ 0 ∷ 0 ∷ 0 ∷ 0 ∷ 0 ∷ [])

abbrev table13 : List ℕ
table13 = bytes (1 ∷ 2 ∷ 2 ∷ 2 ∷ 0 ∷ 1 ∷ 2 ∷ 0 ∷ 0 ∷ 1 ∷ 2 ∷ 0 ∷ 0 ∷ [])

abbrev table14 : List ℕ
table14 = bytes (2 ∷ 4 ∷ 0 ∷ 0 ∷ 0 ∷ 0 ∷ 0 ∷ 0 ∷ 0 ∷ 0 ∷ 0 ∷ 0 ∷ 0 ∷ 0 ∷ 0 ∷ 0 ∷ 0 ∷ 0 ∷ 0 ∷ 0 ∷ 0 ∷ 0 ∷ 0 ∷ 0 ∷ 0 ∷ 0 ∷ 0 ∷ 0 ∷ 0 ∷ 0 ∷ 0 ∷ 0 ∷ 0 ∷ 0 ∷ 0 ∷ 0
    ∷ 0 ∷ 0 ∷ 0 ∷ 0 ∷ [])

abbrev table15 : List ℕ
table15 = bytes (2 ∷ 4 ∷ 0 ∷ 0 ∷ 0 ∷ 0 ∷ 0 ∷ 0 ∷ 0 ∷ 0 ∷ 0 ∷ 0 ∷ 0 ∷ 0 ∷ 0 ∷ 0 ∷ 0 ∷ 0 ∷ 0 ∷ 0 ∷ 0 ∷ 1 ∷ 1 ∷ 0 ∷ 1 ∷ 1 ∷ 0 ∷ 0 ∷ 0 ∷ 0 ∷ 0 ∷ 0 ∷ 0 ∷ 0 ∷ 0 ∷ 0
    ∷ 0 ∷ 0 ∷ 0 ∷ 0 ∷ [])

abbrev table16 : List ℕ
table16 = bytes (2 ∷ 4 ∷ 1 ∷ 1 ∷ 0 ∷ 1 ∷ 1 ∷ 0 ∷ 0 ∷ 0 ∷ 0 ∷ 0 ∷ 0 ∷ 0 ∷ 0 ∷ 0 ∷ 0 ∷ 0 ∷ 0 ∷ 0 ∷ 0 ∷ 1 ∷ 1 ∷ 0 ∷ 1 ∷ 1 ∷ 0 ∷ 0 ∷ 0 ∷ 0 ∷ 0 ∷ 0 ∷ 0 ∷ 0 ∷ 0 ∷ 0
    ∷ 0 ∷ 0 ∷ 0 ∷ 0 ∷ [])

abbrev table17 : List ℕ
table17 = bytes (2 ∷ 4 ∷ 2 ∷ 1 ∷ 1 ∷ 1 ∷ 1 ∷ 0 ∷ 0 ∷ 3 ∷ 1 ∷ 1 ∷ 1 ∷ 0 ∷ 0 ∷ 0 ∷ 0 ∷ 0 ∷ 0 ∷ 0 ∷ 0 ∷ 1 ∷ 1 ∷ 0 ∷ 1 ∷ 1 ∷ 0 ∷ 0 ∷ 0 ∷ 0 ∷ 0 ∷ 0 ∷ 0 ∷ 0 ∷ 0 ∷ 0
    ∷ 0 ∷ 0 ∷ 0 ∷ 0 ∷ [])

abbrev table18 : List ℕ
table18 = bytes (2 ∷ 4 ∷ 2 ∷ 1 ∷ 1 ∷ 1 ∷ 1 ∷ 0 ∷ 0 ∷ 3 ∷ 1 ∷ 1 ∷ 1 ∷ 0 ∷ 0 ∷ 0 ∷ 0 ∷ 0 ∷ 0 ∷ 0 ∷ 0 ∷ 2 ∷ 1 ∷ 0 ∷ 1 ∷ 1 ∷ 0 ∷ 0 ∷ 4 ∷ 0 ∷ 1 ∷ 1 ∷ 0 ∷ 0 ∷ 0 ∷ 0
    ∷ 0 ∷ 0 ∷ 0 ∷ 0 ∷ [])

-- 9 with too few records free, 10 on a table that no run makes, 9 before 10, and an equal number that forces nothing.
abbrev small : List Script
small = script (lent 96) (accepted (fresh 2 2) 0 [] table8 ∷ accepted (step 0 checkpoint) 4 (1 ∷ []) table9
    ∷ accepted (step 0 (send 1)) 8 (1 ∷ 1 ∷ []) table10 ∷ refused (step 0 checkpoint) 4 9 ∷ accepted (step 1 (send 0)) 8 (1 ∷ 0 ∷ []) table11
    ∷ refused (step 1 (receipt 0 1)) 16 9 ∷ []) ∷ script table12 (refused (step 0 checkpoint) 4 10 ∷ []) ∷ script table13 (refused (step 0 checkpoint) 4 9
    ∷ []) ∷ script (lent 160) (accepted (fresh 2 4) 0 [] table14 ∷ accepted (step 1 checkpoint) 4 (1 ∷ []) table15
    ∷ accepted (step 0 checkpoint) 4 (1 ∷ []) table16 ∷ accepted (step 0 (send 1)) 8 (1 ∷ 1 ∷ []) table17
    ∷ accepted (step 1 (receipt 0 1)) 16 (1 ∷ 0 ∷ 2 ∷ 2 ∷ []) table18 ∷ []) ∷ []

pub small_agree : Agree small
unfolding fresh_on step_on line_on failed_on resend_on layout decoded well_laid word put_word put_words failure_answer failure_line rounds round ones ones_in in_transit
small_agree = refl

abbrev table19 : List ℕ
table19 = bytes ([])
    ++ (0 ∷ 0 ∷ 0 ∷ [])

abbrev table20 : List ℕ
table20 = bytes (2 ∷ [])
    ++ (0 ∷ 0 ∷ 0 ∷ [])

abbrev table21 : List ℕ
table21 = bytes (2 ∷ 2 ∷ [])

abbrev table22 : List ℕ
table22 = bytes (2 ∷ 2 ∷ 2 ∷ 1 ∷ 1 ∷ 1 ∷ 1 ∷ 0 ∷ 0 ∷ 3 ∷ 1 ∷ 1 ∷ 1 ∷ 1 ∷ 0 ∷ 0 ∷ 4 ∷ 0 ∷ 1 ∷ 0 ∷ [])

abbrev table23 : List ℕ
table23 = bytes (2 ∷ 2 ∷ 2 ∷ 1 ∷ 1 ∷ 1 ∷ 1 ∷ 0 ∷ 0 ∷ 3 ∷ 1 ∷ 1 ∷ 1 ∷ 1 ∷ 0 ∷ 0 ∷ 4 ∷ 0 ∷ 1 ∷ 0 ∷ 0 ∷ 0 ∷ 0 ∷ [])
    ++ (0 ∷ 0 ∷ 0 ∷ [])

abbrev table24 : List ℕ
table24 = bytes (2 ∷ 2 ∷ 2 ∷ 1 ∷ 1 ∷ 1 ∷ 1 ∷ 0 ∷ 0 ∷ 3 ∷ 1 ∷ 1 ∷ 1 ∷ 1 ∷ 0 ∷ 0 ∷ 4 ∷ 0 ∷ 1 ∷ 0 ∷ 0 ∷ 0 ∷ 0 ∷ 0 ∷ [])
    ++ (9 ∷ [])

abbrev table25 : List ℕ
table25 = bytes (0 ∷ 2 ∷ 2 ∷ 1 ∷ 1 ∷ 1 ∷ 1 ∷ 0 ∷ 0 ∷ 3 ∷ 1 ∷ 1 ∷ 1 ∷ 1 ∷ 0 ∷ 0 ∷ 4 ∷ 0 ∷ 1 ∷ 0 ∷ 0 ∷ 0 ∷ 0 ∷ 0 ∷ [])

abbrev table26 : List ℕ
table26 = bytes (17 ∷ 2 ∷ 2 ∷ 1 ∷ 1 ∷ 1 ∷ 1 ∷ 0 ∷ 0 ∷ 3 ∷ 1 ∷ 1 ∷ 1 ∷ 1 ∷ 0 ∷ 0 ∷ 4 ∷ 0 ∷ 1 ∷ 0 ∷ 0 ∷ 0 ∷ 0 ∷ 0 ∷ [])

abbrev table27 : List ℕ
table27 = bytes (2 ∷ 0 ∷ 2 ∷ 1 ∷ 1 ∷ 1 ∷ 1 ∷ 0 ∷ 0 ∷ 3 ∷ 1 ∷ 1 ∷ 1 ∷ 1 ∷ 0 ∷ 0 ∷ 4 ∷ 0 ∷ 1 ∷ 0 ∷ 0 ∷ 0 ∷ 0 ∷ 0 ∷ [])

abbrev table28 : List ℕ
table28 = bytes (2 ∷ 1025 ∷ 2 ∷ 1 ∷ 1 ∷ 1 ∷ 1 ∷ 0 ∷ 0 ∷ 3 ∷ 1 ∷ 1 ∷ 1 ∷ 1 ∷ 0 ∷ 0 ∷ 4 ∷ 0 ∷ 1 ∷ 0 ∷ 0 ∷ 0 ∷ 0 ∷ 0 ∷ [])

abbrev table29 : List ℕ
table29 = bytes (4294967295 ∷ 4294967295 ∷ 2 ∷ 1 ∷ 1 ∷ 1 ∷ 1 ∷ 0 ∷ 0 ∷ 3 ∷ 1 ∷ 1 ∷ 1 ∷ 1 ∷ 0 ∷ 0 ∷ 4 ∷ 0 ∷ 1 ∷ 0 ∷ 0 ∷ 0 ∷ 0 ∷ 0 ∷ [])

abbrev table30 : List ℕ
table30 = bytes (16777216 ∷ 2 ∷ 2 ∷ 1 ∷ 1 ∷ 1 ∷ 1 ∷ 0 ∷ 0 ∷ 3 ∷ 1 ∷ 1 ∷ 1 ∷ 1 ∷ 0 ∷ 0 ∷ 4 ∷ 0 ∷ 1 ∷ 0 ∷ 0 ∷ 0 ∷ 0 ∷ 0 ∷ [])

-- Tables under 8 bytes, dimensions out of range, other lengths than those of n and E.
abbrev lengths : List Script
lengths = script (lent 0) (refused (step 4294967295 checkpoint) 8 2 ∷ refused (step 2 (send 2)) 8 2 ∷ refused (step 2 (receipt 2 0)) 8 2
    ∷ refused (line 4294967295) 8 2 ∷ refused (failed 4294967295) 8 2 ∷ resend (0 ∷ 4294967295 ∷ []) [] 8 2 [] ∷ refused (fresh 2 2) 0 2
    ∷ refused (fresh 0 2) 0 1 ∷ []) ∷ script table19 (refused (step 4294967295 checkpoint) 8 2 ∷ refused (step 2 (send 2)) 8 2
    ∷ refused (step 2 (receipt 2 0)) 8 2 ∷ refused (line 4294967295) 8 2 ∷ refused (failed 4294967295) 8 2 ∷ resend (0 ∷ 4294967295 ∷ []) [] 8 2 []
    ∷ refused (fresh 2 2) 0 2 ∷ refused (fresh 0 2) 0 1 ∷ []) ∷ script table20 (refused (step 4294967295 checkpoint) 8 2 ∷ refused (step 2 (send 2)) 8 2
    ∷ refused (step 2 (receipt 2 0)) 8 2 ∷ refused (line 4294967295) 8 2 ∷ refused (failed 4294967295) 8 2 ∷ resend (0 ∷ 4294967295 ∷ []) [] 8 2 []
    ∷ refused (fresh 2 2) 0 2 ∷ refused (fresh 0 2) 0 1 ∷ []) ∷ script table21 (refused (step 4294967295 checkpoint) 8 2 ∷ refused (step 2 (send 2)) 8 2
    ∷ refused (step 2 (receipt 2 0)) 8 2 ∷ refused (line 4294967295) 8 2 ∷ refused (failed 4294967295) 8 2 ∷ resend (0 ∷ 4294967295 ∷ []) [] 8 2 []
    ∷ refused (fresh 2 2) 0 2 ∷ refused (fresh 0 2) 0 1 ∷ []) ∷ script table22 (refused (step 4294967295 checkpoint) 8 2 ∷ refused (step 2 (send 2)) 8 2
    ∷ refused (step 2 (receipt 2 0)) 8 2 ∷ refused (line 4294967295) 8 2 ∷ refused (failed 4294967295) 8 2 ∷ resend (0 ∷ 4294967295 ∷ []) [] 8 2 []
    ∷ refused (fresh 2 2) 0 2 ∷ refused (fresh 0 2) 0 1 ∷ []) ∷ script table23 (refused (step 4294967295 checkpoint) 8 2 ∷ refused (step 2 (send 2)) 8 2
    ∷ refused (step 2 (receipt 2 0)) 8 2 ∷ refused (line 4294967295) 8 2 ∷ refused (failed 4294967295) 8 2 ∷ resend (0 ∷ 4294967295 ∷ []) [] 8 2 []
    ∷ refused (fresh 2 2) 0 2 ∷ refused (fresh 0 2) 0 1 ∷ []) ∷ script table24 (refused (step 4294967295 checkpoint) 8 2 ∷ refused (step 2 (send 2)) 8 2
    ∷ refused (step 2 (receipt 2 0)) 8 2 ∷ refused (line 4294967295) 8 2 ∷ refused (failed 4294967295) 8 2 ∷ resend (0 ∷ 4294967295 ∷ []) [] 8 2 []
    ∷ refused (fresh 2 2) 0 2 ∷ refused (fresh 0 2) 0 1 ∷ []) ∷ script table25 (refused (step 4294967295 checkpoint) 8 1 ∷ refused (step 2 (send 2)) 8 1
    ∷ refused (step 2 (receipt 2 0)) 8 1 ∷ refused (line 4294967295) 8 1 ∷ refused (failed 4294967295) 8 1 ∷ resend (0 ∷ 4294967295 ∷ []) [] 8 1 []
    ∷ refused (fresh 0 2) 0 1 ∷ []) ∷ script table26 (refused (step 4294967295 checkpoint) 8 1 ∷ refused (step 2 (send 2)) 8 1
    ∷ refused (step 2 (receipt 2 0)) 8 1 ∷ refused (line 4294967295) 8 1 ∷ refused (failed 4294967295) 8 1 ∷ resend (0 ∷ 4294967295 ∷ []) [] 8 1 []
    ∷ refused (fresh 17 2) 0 1 ∷ []) ∷ script table27 (refused (step 4294967295 checkpoint) 8 1 ∷ refused (step 2 (send 2)) 8 1
    ∷ refused (step 2 (receipt 2 0)) 8 1 ∷ refused (line 4294967295) 8 1 ∷ refused (failed 4294967295) 8 1 ∷ resend (0 ∷ 4294967295 ∷ []) [] 8 1 []
    ∷ refused (fresh 2 0) 0 1 ∷ []) ∷ script table28 (refused (step 4294967295 checkpoint) 8 1 ∷ refused (step 2 (send 2)) 8 1
    ∷ refused (step 2 (receipt 2 0)) 8 1 ∷ refused (line 4294967295) 8 1 ∷ refused (failed 4294967295) 8 1 ∷ resend (0 ∷ 4294967295 ∷ []) [] 8 1 []
    ∷ refused (fresh 2 1025) 0 1 ∷ []) ∷ script table29 (refused (step 4294967295 checkpoint) 8 1 ∷ refused (step 2 (send 2)) 8 1
    ∷ refused (step 2 (receipt 2 0)) 8 1 ∷ refused (line 4294967295) 8 1 ∷ refused (failed 4294967295) 8 1 ∷ resend (0 ∷ 4294967295 ∷ []) [] 8 1 []
    ∷ refused (fresh 4294967295 4294967295) 0 1 ∷ []) ∷ script table30 (refused (step 4294967295 checkpoint) 8 1 ∷ refused (step 2 (send 2)) 8 1
    ∷ refused (step 2 (receipt 2 0)) 8 1 ∷ refused (line 4294967295) 8 1 ∷ refused (failed 4294967295) 8 1 ∷ resend (0 ∷ 4294967295 ∷ []) [] 8 1 []
    ∷ refused (fresh 16777216 2) 0 1 ∷ []) ∷ []

pub lengths_agree : Agree lengths
unfolding fresh_on step_on line_on failed_on resend_on layout decoded well_laid word put_word put_words failure_answer failure_line rounds round ones ones_in in_transit
lengths_agree = refl

abbrev table31 : List ℕ
table31 = bytes (2 ∷ 2 ∷ 3 ∷ 1 ∷ 1 ∷ 1 ∷ 1 ∷ 0 ∷ 0 ∷ 3 ∷ 1 ∷ 1 ∷ 1 ∷ 1 ∷ 0 ∷ 0 ∷ 4 ∷ 0 ∷ 1 ∷ 0 ∷ 0 ∷ 0 ∷ 0 ∷ 0 ∷ [])

abbrev table32 : List ℕ
table32 = bytes (2 ∷ 2 ∷ 256 ∷ 1 ∷ 1 ∷ 1 ∷ 1 ∷ 0 ∷ 0 ∷ 3 ∷ 1 ∷ 1 ∷ 1 ∷ 1 ∷ 0 ∷ 0 ∷ 4 ∷ 0 ∷ 1 ∷ 0 ∷ 0 ∷ 0 ∷ 0 ∷ 0 ∷ [])

abbrev table33 : List ℕ
table33 = bytes (2 ∷ 4 ∷ 5 ∷ 1 ∷ 0 ∷ 2 ∷ 1 ∷ 0 ∷ 0 ∷ 2 ∷ 1 ∷ 0 ∷ 0 ∷ 2 ∷ 1 ∷ 0 ∷ 0 ∷ 2 ∷ 1 ∷ 0 ∷ 0 ∷ 4 ∷ 1 ∷ 3 ∷ 1 ∷ 1 ∷ 0 ∷ 0 ∷ 3 ∷ 0 ∷ 1 ∷ 1 ∷ 3 ∷ 0 ∷ 2 ∷ 1
    ∷ 3 ∷ 0 ∷ 3 ∷ 1 ∷ [])

abbrev table34 : List ℕ
table34 = bytes (2 ∷ 2 ∷ 2 ∷ 1 ∷ 1 ∷ 1 ∷ 1 ∷ 0 ∷ 0 ∷ 3 ∷ 1 ∷ 1 ∷ 1 ∷ 2 ∷ 0 ∷ 0 ∷ 4 ∷ 0 ∷ 1 ∷ 0 ∷ 0 ∷ 0 ∷ 0 ∷ 0 ∷ [])

abbrev table35 : List ℕ
table35 = bytes (2 ∷ 2 ∷ 1 ∷ 1 ∷ 0 ∷ 1 ∷ 1 ∷ 0 ∷ 0 ∷ 3 ∷ 1 ∷ 1 ∷ 1 ∷ 1 ∷ 0 ∷ 0 ∷ 4 ∷ 0 ∷ 1 ∷ 0 ∷ 0 ∷ 0 ∷ 0 ∷ 0 ∷ [])

abbrev table36 : List ℕ
table36 = bytes (2 ∷ 2 ∷ 2 ∷ 1 ∷ 1 ∷ 1 ∷ 1 ∷ 0 ∷ 0 ∷ 3 ∷ 1 ∷ 1 ∷ 1 ∷ 1 ∷ 0 ∷ 0 ∷ 4 ∷ 0 ∷ 1 ∷ 0 ∷ 1 ∷ 0 ∷ 0 ∷ 0 ∷ [])

abbrev table37 : List ℕ
table37 = bytes (2 ∷ 2 ∷ 2 ∷ 1 ∷ 1 ∷ 1 ∷ 1 ∷ 0 ∷ 0 ∷ 3 ∷ 1 ∷ 1 ∷ 1 ∷ 1 ∷ 0 ∷ 0 ∷ 4 ∷ 0 ∷ 1 ∷ 0 ∷ 0 ∷ 1 ∷ 0 ∷ 0 ∷ [])

abbrev table38 : List ℕ
table38 = bytes (2 ∷ 2 ∷ 2 ∷ 1 ∷ 1 ∷ 1 ∷ 1 ∷ 0 ∷ 0 ∷ 3 ∷ 1 ∷ 1 ∷ 1 ∷ 1 ∷ 0 ∷ 0 ∷ 4 ∷ 0 ∷ 1 ∷ 0 ∷ 0 ∷ 0 ∷ 1 ∷ 0 ∷ [])

abbrev table39 : List ℕ
table39 = bytes (2 ∷ 2 ∷ 2 ∷ 1 ∷ 1 ∷ 1 ∷ 1 ∷ 0 ∷ 0 ∷ 3 ∷ 1 ∷ 1 ∷ 1 ∷ 1 ∷ 0 ∷ 0 ∷ 4 ∷ 0 ∷ 1 ∷ 0 ∷ 0 ∷ 0 ∷ 0 ∷ 1 ∷ [])

abbrev table40 : List ℕ
table40 = bytes (2 ∷ 2 ∷ 2 ∷ 1 ∷ 1 ∷ 5 ∷ 1 ∷ 0 ∷ 0 ∷ 3 ∷ 1 ∷ 1 ∷ 1 ∷ 1 ∷ 0 ∷ 0 ∷ 4 ∷ 0 ∷ 1 ∷ 0 ∷ 0 ∷ 0 ∷ 0 ∷ 0 ∷ [])

abbrev table41 : List ℕ
table41 = bytes (2 ∷ 2 ∷ 2 ∷ 1 ∷ 1 ∷ 1 ∷ 1 ∷ 0 ∷ 0 ∷ 3 ∷ 1 ∷ 1 ∷ 1 ∷ 1 ∷ 0 ∷ 0 ∷ 16777216 ∷ 0 ∷ 1 ∷ 0 ∷ 0 ∷ 0 ∷ 0 ∷ 0 ∷ [])

abbrev table42 : List ℕ
table42 = bytes (2 ∷ 2 ∷ 2 ∷ 5 ∷ 1 ∷ 1 ∷ 5 ∷ 0 ∷ 0 ∷ 3 ∷ 1 ∷ 1 ∷ 5 ∷ 1 ∷ 0 ∷ 0 ∷ 4 ∷ 0 ∷ 1 ∷ 0 ∷ 0 ∷ 0 ∷ 0 ∷ 0 ∷ [])

abbrev table43 : List ℕ
table43 = bytes (2 ∷ 2 ∷ 2 ∷ 1 ∷ 1 ∷ 1 ∷ 1 ∷ 1 ∷ 0 ∷ 3 ∷ 1 ∷ 1 ∷ 1 ∷ 1 ∷ 0 ∷ 0 ∷ 4 ∷ 0 ∷ 1 ∷ 0 ∷ 0 ∷ 0 ∷ 0 ∷ 0 ∷ [])

abbrev table44 : List ℕ
table44 = bytes (2 ∷ 2 ∷ 2 ∷ 1 ∷ 1 ∷ 2 ∷ 1 ∷ 1 ∷ 0 ∷ 3 ∷ 1 ∷ 1 ∷ 1 ∷ 1 ∷ 0 ∷ 0 ∷ 4 ∷ 0 ∷ 1 ∷ 0 ∷ 0 ∷ 0 ∷ 0 ∷ 0 ∷ [])

abbrev table45 : List ℕ
table45 = bytes (2 ∷ 2 ∷ 2 ∷ 1 ∷ 1 ∷ 1 ∷ 1 ∷ 0 ∷ 0 ∷ 3 ∷ 0 ∷ 1 ∷ 1 ∷ 1 ∷ 0 ∷ 0 ∷ 4 ∷ 0 ∷ 1 ∷ 0 ∷ 0 ∷ 0 ∷ 0 ∷ 0 ∷ [])

abbrev table46 : List ℕ
table46 = bytes (2 ∷ 2 ∷ 2 ∷ 1 ∷ 1 ∷ 1 ∷ 1 ∷ 0 ∷ 0 ∷ 3 ∷ 2 ∷ 1 ∷ 1 ∷ 1 ∷ 0 ∷ 0 ∷ 4 ∷ 0 ∷ 1 ∷ 0 ∷ 0 ∷ 0 ∷ 0 ∷ 0 ∷ [])

abbrev table47 : List ℕ
table47 = bytes (2 ∷ 2 ∷ 2 ∷ 1 ∷ 1 ∷ 1 ∷ 1 ∷ 0 ∷ 0 ∷ 3 ∷ 1 ∷ 0 ∷ 1 ∷ 1 ∷ 0 ∷ 0 ∷ 4 ∷ 0 ∷ 1 ∷ 0 ∷ 0 ∷ 0 ∷ 0 ∷ 0 ∷ [])

abbrev table48 : List ℕ
table48 = bytes (2 ∷ 2 ∷ 2 ∷ 1 ∷ 1 ∷ 1 ∷ 1 ∷ 0 ∷ 0 ∷ 3 ∷ 1 ∷ 2 ∷ 1 ∷ 1 ∷ 0 ∷ 0 ∷ 4 ∷ 0 ∷ 1 ∷ 0 ∷ 0 ∷ 0 ∷ 0 ∷ 0 ∷ [])

abbrev table49 : List ℕ
table49 = bytes (2 ∷ 2 ∷ 2 ∷ 1 ∷ 1 ∷ 1 ∷ 1 ∷ 0 ∷ 0 ∷ 3 ∷ 1 ∷ 1 ∷ 1 ∷ 1 ∷ 0 ∷ 0 ∷ 4 ∷ 1 ∷ 1 ∷ 0 ∷ 0 ∷ 0 ∷ 0 ∷ 0 ∷ [])

abbrev table50 : List ℕ
table50 = bytes (2 ∷ 2 ∷ 2 ∷ 1 ∷ 1 ∷ 1 ∷ 1 ∷ 0 ∷ 0 ∷ 3 ∷ 1 ∷ 1 ∷ 1 ∷ 1 ∷ 0 ∷ 0 ∷ 4 ∷ 2 ∷ 1 ∷ 0 ∷ 0 ∷ 0 ∷ 0 ∷ 0 ∷ [])

abbrev table51 : List ℕ
table51 = bytes (2 ∷ 2 ∷ 2 ∷ 1 ∷ 1 ∷ 1 ∷ 1 ∷ 0 ∷ 0 ∷ 3 ∷ 1 ∷ 1 ∷ 1 ∷ 1 ∷ 0 ∷ 0 ∷ 4 ∷ 0 ∷ 0 ∷ 0 ∷ 0 ∷ 0 ∷ 0 ∷ 0 ∷ [])

abbrev table52 : List ℕ
table52 = bytes (2 ∷ 2 ∷ 2 ∷ 1 ∷ 1 ∷ 1 ∷ 1 ∷ 0 ∷ 0 ∷ 3 ∷ 1 ∷ 1 ∷ 1 ∷ 1 ∷ 0 ∷ 0 ∷ 4 ∷ 0 ∷ 3 ∷ 0 ∷ 0 ∷ 0 ∷ 0 ∷ 0 ∷ [])

abbrev table53 : List ℕ
table53 = bytes (2 ∷ 2 ∷ 2 ∷ 0 ∷ 1 ∷ 1 ∷ 1 ∷ 0 ∷ 0 ∷ 3 ∷ 1 ∷ 1 ∷ 1 ∷ 1 ∷ 0 ∷ 0 ∷ 4 ∷ 0 ∷ 1 ∷ 0 ∷ 0 ∷ 0 ∷ 0 ∷ 0 ∷ [])

abbrev table54 : List ℕ
table54 = bytes (2 ∷ 2 ∷ 2 ∷ 1 ∷ 1 ∷ 1 ∷ 1 ∷ 0 ∷ 0 ∷ 3 ∷ 1 ∷ 1 ∷ 1 ∷ 1 ∷ 1 ∷ 0 ∷ 4 ∷ 0 ∷ 1 ∷ 0 ∷ 0 ∷ 0 ∷ 0 ∷ 0 ∷ [])

abbrev table55 : List ℕ
table55 = bytes (2 ∷ 2 ∷ 2 ∷ 1 ∷ 0 ∷ 1 ∷ 1 ∷ 0 ∷ 0 ∷ 3 ∷ 1 ∷ 1 ∷ 1 ∷ 1 ∷ 0 ∷ 0 ∷ 4 ∷ 0 ∷ 1 ∷ 0 ∷ 0 ∷ 0 ∷ 0 ∷ 0 ∷ [])

abbrev table56 : List ℕ
table56 = bytes (2 ∷ 2 ∷ 2 ∷ 1 ∷ 1 ∷ 1 ∷ 1 ∷ 0 ∷ 0 ∷ 3 ∷ 1 ∷ 1 ∷ 1 ∷ 1 ∷ 0 ∷ 1 ∷ 4 ∷ 0 ∷ 1 ∷ 0 ∷ 0 ∷ 0 ∷ 0 ∷ 0 ∷ [])

-- Tables that are not well laid, by each clause.
abbrev laid : List Script
laid = script table31 (refused (step 0 checkpoint) 4 3 ∷ refused (step 1 (send 0)) 8 3 ∷ refused (failed 0) 16 3 ∷ resend [] [] 0 3 [] ∷ [])
    ∷ script table32 (refused (step 1 (send 0)) 8 3 ∷ refused (step 1 (receipt 0 1)) 16 3 ∷ refused (failed 0) 16 3 ∷ resend [] [] 0 3 [] ∷ [])
    ∷ script table33 (refused (step 1 (receipt 0 1)) 16 3 ∷ refused (line 1) 8 3 ∷ refused (failed 0) 16 3 ∷ resend [] [] 0 3 [] ∷ [])
    ∷ script table34 (refused (line 1) 8 3 ∷ refused (step 0 checkpoint) 4 3 ∷ refused (failed 0) 16 3 ∷ resend [] [] 0 3 [] ∷ [])
    ∷ script table35 (refused (step 0 checkpoint) 4 3 ∷ refused (step 1 (send 0)) 8 3 ∷ refused (failed 0) 16 3 ∷ resend [] [] 0 3 [] ∷ [])
    ∷ script table36 (refused (step 1 (send 0)) 8 3 ∷ refused (step 1 (receipt 0 1)) 16 3 ∷ refused (failed 0) 16 3 ∷ resend [] [] 0 3 [] ∷ [])
    ∷ script table37 (refused (step 1 (receipt 0 1)) 16 3 ∷ refused (line 1) 8 3 ∷ refused (failed 0) 16 3 ∷ resend [] [] 0 3 [] ∷ [])
    ∷ script table38 (refused (line 1) 8 3 ∷ refused (step 0 checkpoint) 4 3 ∷ refused (failed 0) 16 3 ∷ resend [] [] 0 3 [] ∷ [])
    ∷ script table39 (refused (step 0 checkpoint) 4 3 ∷ refused (step 1 (send 0)) 8 3 ∷ refused (failed 0) 16 3 ∷ resend [] [] 0 3 [] ∷ [])
    ∷ script table40 (refused (step 1 (send 0)) 8 3 ∷ refused (step 1 (receipt 0 1)) 16 3 ∷ refused (failed 0) 16 3 ∷ resend [] [] 0 3 [] ∷ [])
    ∷ script table41 (refused (step 1 (receipt 0 1)) 16 3 ∷ refused (line 1) 8 3 ∷ refused (failed 0) 16 3 ∷ resend [] [] 0 3 [] ∷ [])
    ∷ script table42 (refused (line 1) 8 3 ∷ refused (step 0 checkpoint) 4 3 ∷ refused (failed 0) 16 3 ∷ resend [] [] 0 3 [] ∷ [])
    ∷ script table43 (refused (step 0 checkpoint) 4 3 ∷ refused (step 1 (send 0)) 8 3 ∷ refused (failed 0) 16 3 ∷ resend [] [] 0 3 [] ∷ [])
    ∷ script table44 (refused (step 1 (send 0)) 8 3 ∷ refused (step 1 (receipt 0 1)) 16 3 ∷ refused (failed 0) 16 3 ∷ resend [] [] 0 3 [] ∷ [])
    ∷ script table45 (refused (step 1 (receipt 0 1)) 16 3 ∷ refused (line 1) 8 3 ∷ refused (failed 0) 16 3 ∷ resend [] [] 0 3 [] ∷ [])
    ∷ script table46 (refused (line 1) 8 3 ∷ refused (step 0 checkpoint) 4 3 ∷ refused (failed 0) 16 3 ∷ resend [] [] 0 3 [] ∷ [])
    ∷ script table47 (refused (step 0 checkpoint) 4 3 ∷ refused (step 1 (send 0)) 8 3 ∷ refused (failed 0) 16 3 ∷ resend [] [] 0 3 [] ∷ [])
    ∷ script table48 (refused (step 1 (send 0)) 8 3 ∷ refused (step 1 (receipt 0 1)) 16 3 ∷ refused (failed 0) 16 3 ∷ resend [] [] 0 3 [] ∷ [])
    ∷ script table49 (refused (step 1 (receipt 0 1)) 16 3 ∷ refused (line 1) 8 3 ∷ refused (failed 0) 16 3 ∷ resend [] [] 0 3 [] ∷ [])
    ∷ script table50 (refused (line 1) 8 3 ∷ refused (step 0 checkpoint) 4 3 ∷ refused (failed 0) 16 3 ∷ resend [] [] 0 3 [] ∷ [])
    ∷ script table51 (refused (step 0 checkpoint) 4 3 ∷ refused (step 1 (send 0)) 8 3 ∷ refused (failed 0) 16 3 ∷ resend [] [] 0 3 [] ∷ [])
    ∷ script table52 (refused (step 1 (send 0)) 8 3 ∷ refused (step 1 (receipt 0 1)) 16 3 ∷ refused (failed 0) 16 3 ∷ resend [] [] 0 3 [] ∷ [])
    ∷ script table53 (refused (step 1 (receipt 0 1)) 16 3 ∷ refused (line 1) 8 3 ∷ refused (failed 0) 16 3 ∷ resend [] [] 0 3 [] ∷ [])
    ∷ script table54 (refused (line 1) 8 3 ∷ refused (step 0 checkpoint) 4 3 ∷ refused (failed 0) 16 3 ∷ resend [] [] 0 3 [] ∷ [])
    ∷ script table55 (refused (step 0 checkpoint) 4 3 ∷ refused (step 1 (send 0)) 8 3 ∷ refused (failed 0) 16 3 ∷ resend [] [] 0 3 [] ∷ [])
    ∷ script table56 (refused (step 1 (send 0)) 8 3 ∷ refused (step 1 (receipt 0 1)) 16 3 ∷ refused (failed 0) 16 3 ∷ resend [] [] 0 3 [] ∷ []) ∷ []

pub laid_agree : Agree laid
unfolding fresh_on step_on line_on failed_on resend_on layout decoded well_laid word put_word put_words failure_answer failure_line rounds round ones ones_in in_transit
laid_agree = refl

abbrev table57 : List ℕ
table57 = bytes (2 ∷ 4 ∷ 4 ∷ 3 ∷ 1 ∷ 2 ∷ 2 ∷ 0 ∷ 0 ∷ 3 ∷ 1 ∷ 1 ∷ 2 ∷ 4 ∷ 1 ∷ 1 ∷ 0 ∷ 1 ∷ 3 ∷ 0 ∷ 0 ∷ 1 ∷ 0 ∷ 1 ∷ 3 ∷ 0 ∷ 1 ∷ 0 ∷ 0 ∷ 0 ∷ 0 ∷ 0 ∷ 0 ∷ 0 ∷ 0 ∷ 0
    ∷ 0 ∷ 0 ∷ 0 ∷ 0 ∷ [])

abbrev table58 : List ℕ
table58 = bytes (2 ∷ 4 ∷ 4 ∷ 3 ∷ 1 ∷ 2 ∷ 2 ∷ 0 ∷ 0 ∷ 3 ∷ 1 ∷ 1 ∷ 2 ∷ 4 ∷ 1 ∷ 1 ∷ 0 ∷ 1 ∷ 3 ∷ 0 ∷ 0 ∷ 3 ∷ 2 ∷ 1 ∷ 3 ∷ 0 ∷ 1 ∷ 0 ∷ 2 ∷ 2 ∷ 0 ∷ 0 ∷ 4 ∷ 0 ∷ 1 ∷ 2
    ∷ 0 ∷ 0 ∷ 0 ∷ 0 ∷ [])

abbrev table59 : List ℕ
table59 = bytes (2 ∷ 4 ∷ 4 ∷ 3 ∷ 1 ∷ 2 ∷ 2 ∷ 0 ∷ 0 ∷ 3 ∷ 1 ∷ 1 ∷ 2 ∷ 4 ∷ 1 ∷ 1 ∷ 1 ∷ 1 ∷ 3 ∷ 0 ∷ 0 ∷ 1 ∷ 0 ∷ 1 ∷ 3 ∷ 0 ∷ 1 ∷ 0 ∷ 0 ∷ 0 ∷ 0 ∷ 0 ∷ 0 ∷ 0 ∷ 0 ∷ 0
    ∷ 0 ∷ 0 ∷ 0 ∷ 0 ∷ [])

abbrev table60 : List ℕ
table60 = bytes (2 ∷ 4 ∷ 4 ∷ 3 ∷ 1 ∷ 2 ∷ 2 ∷ 0 ∷ 0 ∷ 3 ∷ 1 ∷ 1 ∷ 2 ∷ 4 ∷ 1 ∷ 1 ∷ 1 ∷ 1 ∷ 3 ∷ 0 ∷ 0 ∷ 3 ∷ 2 ∷ 1 ∷ 3 ∷ 0 ∷ 1 ∷ 0 ∷ 2 ∷ 2 ∷ 0 ∷ 0 ∷ 4 ∷ 0 ∷ 1 ∷ 2
    ∷ 0 ∷ 0 ∷ 0 ∷ 0 ∷ [])

abbrev table61 : List ℕ
table61 = bytes (2 ∷ 4 ∷ 4 ∷ 3 ∷ 1 ∷ 2 ∷ 2 ∷ 0 ∷ 0 ∷ 3 ∷ 1 ∷ 1 ∷ 2 ∷ 4 ∷ 1 ∷ 1 ∷ 2 ∷ 1 ∷ 3 ∷ 0 ∷ 0 ∷ 1 ∷ 0 ∷ 1 ∷ 3 ∷ 0 ∷ 1 ∷ 0 ∷ 0 ∷ 0 ∷ 0 ∷ 0 ∷ 0 ∷ 0 ∷ 0 ∷ 0
    ∷ 0 ∷ 0 ∷ 0 ∷ 0 ∷ [])

abbrev table62 : List ℕ
table62 = bytes (2 ∷ 4 ∷ 4 ∷ 3 ∷ 1 ∷ 2 ∷ 2 ∷ 0 ∷ 0 ∷ 3 ∷ 1 ∷ 1 ∷ 2 ∷ 4 ∷ 1 ∷ 1 ∷ 2 ∷ 1 ∷ 3 ∷ 0 ∷ 0 ∷ 3 ∷ 2 ∷ 1 ∷ 3 ∷ 0 ∷ 1 ∷ 0 ∷ 2 ∷ 2 ∷ 0 ∷ 0 ∷ 4 ∷ 0 ∷ 1 ∷ 2
    ∷ 0 ∷ 0 ∷ 0 ∷ 0 ∷ [])

abbrev table63 : List ℕ
table63 = bytes (2 ∷ 4 ∷ 4 ∷ 3 ∷ 1 ∷ 2 ∷ 2 ∷ 0 ∷ 1 ∷ 3 ∷ 1 ∷ 1 ∷ 2 ∷ 4 ∷ 1 ∷ 1 ∷ 2 ∷ 1 ∷ 3 ∷ 0 ∷ 0 ∷ 1 ∷ 0 ∷ 1 ∷ 3 ∷ 0 ∷ 1 ∷ 0 ∷ 0 ∷ 0 ∷ 0 ∷ 0 ∷ 0 ∷ 0 ∷ 0 ∷ 0
    ∷ 0 ∷ 0 ∷ 0 ∷ 0 ∷ [])

abbrev table64 : List ℕ
table64 = bytes (2 ∷ 4 ∷ 4 ∷ 3 ∷ 1 ∷ 2 ∷ 2 ∷ 0 ∷ 2147483648 ∷ 3 ∷ 1 ∷ 1 ∷ 2 ∷ 4 ∷ 1 ∷ 1 ∷ 2 ∷ 1 ∷ 3 ∷ 0 ∷ 0 ∷ 1 ∷ 0 ∷ 1 ∷ 3 ∷ 0 ∷ 1 ∷ 0 ∷ 0 ∷ 0 ∷ 0 ∷ 0 ∷ 0
    ∷ 0 ∷ 0 ∷ 0 ∷ 0 ∷ 0 ∷ 0 ∷ 0 ∷ [])

abbrev table65 : List ℕ
table65 = bytes (2 ∷ 4 ∷ 4 ∷ 3 ∷ 1 ∷ 2 ∷ 2 ∷ 0 ∷ 0 ∷ 3 ∷ 1 ∷ 1 ∷ 1 ∷ 4 ∷ 1 ∷ 1 ∷ 2 ∷ 1 ∷ 3 ∷ 0 ∷ 0 ∷ 1 ∷ 0 ∷ 1 ∷ 3 ∷ 0 ∷ 1 ∷ 0 ∷ 0 ∷ 0 ∷ 0 ∷ 0 ∷ 0 ∷ 0 ∷ 0 ∷ 0
    ∷ 0 ∷ 0 ∷ 0 ∷ 0 ∷ [])

abbrev table66 : List ℕ
table66 = bytes (2 ∷ 4 ∷ 4 ∷ 3 ∷ 1 ∷ 2 ∷ 2 ∷ 0 ∷ 0 ∷ 3 ∷ 1 ∷ 1 ∷ 3 ∷ 4 ∷ 1 ∷ 1 ∷ 2 ∷ 1 ∷ 3 ∷ 0 ∷ 0 ∷ 1 ∷ 0 ∷ 1 ∷ 3 ∷ 0 ∷ 1 ∷ 0 ∷ 0 ∷ 0 ∷ 0 ∷ 0 ∷ 0 ∷ 0 ∷ 0 ∷ 0
    ∷ 0 ∷ 0 ∷ 0 ∷ 0 ∷ [])

abbrev table67 : List ℕ
table67 = bytes (2 ∷ 4 ∷ 4 ∷ 3 ∷ 1 ∷ 2 ∷ 2 ∷ 0 ∷ 0 ∷ 3 ∷ 1 ∷ 1 ∷ 4294967295 ∷ 4 ∷ 1 ∷ 1 ∷ 2 ∷ 1 ∷ 3 ∷ 0 ∷ 0 ∷ 1 ∷ 0 ∷ 1 ∷ 3 ∷ 0 ∷ 1 ∷ 0 ∷ 0 ∷ 0 ∷ 0 ∷ 0 ∷ 0
    ∷ 0 ∷ 0 ∷ 0 ∷ 0 ∷ 0 ∷ 0 ∷ 0 ∷ [])

abbrev table68 : List ℕ
table68 = bytes (2 ∷ 4 ∷ 4 ∷ 3 ∷ 1 ∷ 2 ∷ 2 ∷ 0 ∷ 0 ∷ 3 ∷ 1 ∷ 1 ∷ 2 ∷ 4 ∷ 1 ∷ 1 ∷ 3 ∷ 1 ∷ 3 ∷ 0 ∷ 0 ∷ 1 ∷ 0 ∷ 1 ∷ 3 ∷ 0 ∷ 1 ∷ 0 ∷ 0 ∷ 0 ∷ 0 ∷ 0 ∷ 0 ∷ 0 ∷ 0 ∷ 0
    ∷ 0 ∷ 0 ∷ 0 ∷ 0 ∷ [])

abbrev table69 : List ℕ
table69 = bytes (2 ∷ 4 ∷ 4 ∷ 3 ∷ 1 ∷ 2 ∷ 2 ∷ 0 ∷ 0 ∷ 3 ∷ 1 ∷ 1 ∷ 2 ∷ 4 ∷ 1 ∷ 1 ∷ 2147483650 ∷ 1 ∷ 3 ∷ 0 ∷ 0 ∷ 1 ∷ 0 ∷ 1 ∷ 3 ∷ 0 ∷ 1 ∷ 0 ∷ 0 ∷ 0 ∷ 0 ∷ 0 ∷ 0
    ∷ 0 ∷ 0 ∷ 0 ∷ 0 ∷ 0 ∷ 0 ∷ 0 ∷ [])

abbrev table70 : List ℕ
table70 = bytes (2 ∷ 4 ∷ 4 ∷ 3 ∷ 1 ∷ 2 ∷ 2 ∷ 0 ∷ 0 ∷ 3 ∷ 1 ∷ 1 ∷ 2 ∷ 4 ∷ 1 ∷ 1 ∷ 2 ∷ 1 ∷ 3 ∷ 0 ∷ 3 ∷ 1 ∷ 0 ∷ 1 ∷ 3 ∷ 0 ∷ 1 ∷ 0 ∷ 0 ∷ 0 ∷ 0 ∷ 0 ∷ 0 ∷ 0 ∷ 0 ∷ 0
    ∷ 0 ∷ 0 ∷ 0 ∷ 0 ∷ [])

abbrev table71 : List ℕ
table71 = bytes (2 ∷ 4 ∷ 4 ∷ 3 ∷ 1 ∷ 2 ∷ 2 ∷ 0 ∷ 0 ∷ 3 ∷ 1 ∷ 1 ∷ 2 ∷ 4 ∷ 1 ∷ 1 ∷ 2 ∷ 1 ∷ 3 ∷ 0 ∷ 4294967295 ∷ 1 ∷ 0 ∷ 1 ∷ 3 ∷ 0 ∷ 1 ∷ 0 ∷ 0 ∷ 0 ∷ 0 ∷ 0 ∷ 0
    ∷ 0 ∷ 0 ∷ 0 ∷ 0 ∷ 0 ∷ 0 ∷ 0 ∷ [])

-- Fourth words of records: a receipt's that are well laid, then others of every kind.
abbrev carried : List Script
carried = script table57 (refused (step 0 (receipt 1 1)) 16 8 ∷ accepted (step 1 (receipt 0 1)) 16 (2 ∷ 1 ∷ 2 ∷ 3 ∷ []) table58
    ∷ accepted (line 2) 8 (1 ∷ 2 ∷ []) table58 ∷ accepted (failed 2) 16 (4 ∷ 2 ∷ 2 ∷ 1 ∷ []) table58 ∷ [])
    ∷ script table59 (refused (step 0 (receipt 1 1)) 16 8 ∷ accepted (step 1 (receipt 0 1)) 16 (2 ∷ 1 ∷ 2 ∷ 3 ∷ []) table60
    ∷ accepted (line 2) 8 (1 ∷ 2 ∷ []) table60 ∷ accepted (failed 2) 16 (4 ∷ 2 ∷ 2 ∷ 1 ∷ []) table60 ∷ [])
    ∷ script table61 (refused (step 0 (receipt 1 1)) 16 8 ∷ accepted (step 1 (receipt 0 1)) 16 (2 ∷ 1 ∷ 2 ∷ 3 ∷ []) table62
    ∷ accepted (line 2) 8 (1 ∷ 2 ∷ []) table62 ∷ accepted (failed 2) 16 (4 ∷ 2 ∷ 2 ∷ 1 ∷ []) table62 ∷ [])
    ∷ script table63 (refused (step 0 (receipt 1 1)) 16 3 ∷ []) ∷ script table64 (refused (step 1 (receipt 0 1)) 16 3 ∷ [])
    ∷ script table65 (refused (line 2) 8 3 ∷ []) ∷ script table66 (refused (failed 2) 16 3 ∷ []) ∷ script table67 (refused (step 0 (receipt 1 1)) 16 3 ∷ [])
    ∷ script table68 (refused (step 1 (receipt 0 1)) 16 3 ∷ []) ∷ script table69 (refused (line 2) 8 3 ∷ []) ∷ script table70 (refused (failed 2) 16 3 ∷ [])
    ∷ script table71 (refused (step 0 (receipt 1 1)) 16 3 ∷ []) ∷ []

pub carried_agree : Agree carried
unfolding fresh_on step_on line_on failed_on resend_on layout decoded well_laid word put_word put_words failure_answer failure_line rounds round ones ones_in in_transit
carried_agree = refl

abbrev table72 : List ℕ
table72 = bytes (2 ∷ 2 ∷ 2 ∷ 1 ∷ 1 ∷ 1 ∷ 1 ∷ 0 ∷ 0 ∷ 3 ∷ 1 ∷ 1 ∷ 1 ∷ 1 ∷ 0 ∷ 0 ∷ 4 ∷ 0 ∷ 1 ∷ 0 ∷ 0 ∷ 0 ∷ 0 ∷ 0 ∷ [])

abbrev table73 : List ℕ
table73 = bytes (3 ∷ 4 ∷ 4 ∷ 12 ∷ 0 ∷ 1 ∷ 12 ∷ 0 ∷ 0 ∷ 4 ∷ 1 ∷ 1 ∷ 0 ∷ 4 ∷ 1 ∷ 2 ∷ 1 ∷ 4 ∷ 1 ∷ 4 ∷ 1 ∷ 4 ∷ 2 ∷ 3 ∷ 3 ∷ 0 ∷ 1 ∷ 0 ∷ 3 ∷ 2 ∷ 2 ∷ 0 ∷ 1 ∷ 2 ∷ 0
    ∷ 0 ∷ 3 ∷ 0 ∷ 3 ∷ 2 ∷ 0 ∷ 0 ∷ 0 ∷ 0 ∷ 0 ∷ 0 ∷ 0 ∷ 0 ∷ 0 ∷ 0 ∷ 0 ∷ 0 ∷ 0 ∷ 0 ∷ 0 ∷ 0 ∷ 0 ∷ 0 ∷ 0 ∷ [])

abbrev table74 : List ℕ
table74 = bytes (3 ∷ 4 ∷ 3 ∷ 12 ∷ 0 ∷ 1 ∷ 12 ∷ 0 ∷ 0 ∷ 4 ∷ 1 ∷ 1 ∷ 0 ∷ 4 ∷ 1 ∷ 2 ∷ 1 ∷ 0 ∷ 0 ∷ 0 ∷ 0 ∷ 4 ∷ 2 ∷ 3 ∷ 3 ∷ 0 ∷ 1 ∷ 0 ∷ 3 ∷ 2 ∷ 2 ∷ 0 ∷ 1 ∷ 2 ∷ 0
    ∷ 0 ∷ 3 ∷ 0 ∷ 3 ∷ 2 ∷ 0 ∷ 0 ∷ 0 ∷ 0 ∷ 0 ∷ 0 ∷ 0 ∷ 0 ∷ 0 ∷ 0 ∷ 0 ∷ 0 ∷ 0 ∷ 0 ∷ 0 ∷ 0 ∷ 0 ∷ 0 ∷ 0 ∷ [])

abbrev table75 : List ℕ
table75 = bytes (3 ∷ 4 ∷ 4 ∷ 12 ∷ 0 ∷ 1 ∷ 12 ∷ 0 ∷ 0 ∷ 4 ∷ 1 ∷ 1 ∷ 0 ∷ 4 ∷ 1 ∷ 2 ∷ 1 ∷ 4 ∷ 1 ∷ 3 ∷ 2 ∷ 4 ∷ 2 ∷ 3 ∷ 3 ∷ 0 ∷ 1 ∷ 0 ∷ 3 ∷ 2 ∷ 2 ∷ 0 ∷ 1 ∷ 2 ∷ 0
    ∷ 0 ∷ 3 ∷ 0 ∷ 3 ∷ 2 ∷ 0 ∷ 0 ∷ 0 ∷ 0 ∷ 0 ∷ 0 ∷ 0 ∷ 0 ∷ 0 ∷ 0 ∷ 0 ∷ 0 ∷ 0 ∷ 0 ∷ 0 ∷ 0 ∷ 0 ∷ 0 ∷ 0 ∷ [])

abbrev table76 : List ℕ
table76 = bytes (3 ∷ 4 ∷ 3 ∷ 2 ∷ 0 ∷ 1 ∷ 2 ∷ 0 ∷ 0 ∷ 4 ∷ 1 ∷ 1 ∷ 0 ∷ 4 ∷ 1 ∷ 2 ∷ 1 ∷ 0 ∷ 0 ∷ 0 ∷ 0 ∷ 4 ∷ 2 ∷ 3 ∷ 3 ∷ 0 ∷ 1 ∷ 0 ∷ 3 ∷ 2 ∷ 2 ∷ 0 ∷ 1 ∷ 2 ∷ 0 ∷ 0
    ∷ 3 ∷ 0 ∷ 3 ∷ 2 ∷ 0 ∷ 0 ∷ 0 ∷ 0 ∷ 0 ∷ 0 ∷ 0 ∷ 0 ∷ 0 ∷ 0 ∷ 0 ∷ 0 ∷ 0 ∷ 0 ∷ 0 ∷ 0 ∷ 0 ∷ 0 ∷ 0 ∷ [])

abbrev table77 : List ℕ
table77 = bytes (3 ∷ 4 ∷ 4 ∷ 2 ∷ 0 ∷ 1 ∷ 2 ∷ 0 ∷ 0 ∷ 4 ∷ 1 ∷ 1 ∷ 0 ∷ 4 ∷ 1 ∷ 2 ∷ 1 ∷ 4 ∷ 1 ∷ 3 ∷ 2 ∷ 4 ∷ 2 ∷ 3 ∷ 3 ∷ 0 ∷ 1 ∷ 0 ∷ 3 ∷ 2 ∷ 2 ∷ 0 ∷ 1 ∷ 2 ∷ 0 ∷ 0
    ∷ 3 ∷ 0 ∷ 3 ∷ 2 ∷ 0 ∷ 0 ∷ 0 ∷ 0 ∷ 0 ∷ 0 ∷ 0 ∷ 0 ∷ 0 ∷ 0 ∷ 0 ∷ 0 ∷ 0 ∷ 0 ∷ 0 ∷ 0 ∷ 0 ∷ 0 ∷ 0 ∷ [])

abbrev table78 : List ℕ
table78 = bytes (3 ∷ 4 ∷ 3 ∷ 1 ∷ 0 ∷ 1 ∷ 1 ∷ 0 ∷ 0 ∷ 4 ∷ 1 ∷ 1 ∷ 0 ∷ 4 ∷ 1 ∷ 2 ∷ 1 ∷ 0 ∷ 0 ∷ 0 ∷ 0 ∷ 4 ∷ 2 ∷ 3 ∷ 3 ∷ 0 ∷ 1 ∷ 0 ∷ 3 ∷ 2 ∷ 2 ∷ 0 ∷ 1 ∷ 2 ∷ 0 ∷ 0
    ∷ 3 ∷ 0 ∷ 3 ∷ 2 ∷ 0 ∷ 0 ∷ 0 ∷ 0 ∷ 0 ∷ 0 ∷ 0 ∷ 0 ∷ 0 ∷ 0 ∷ 0 ∷ 0 ∷ 0 ∷ 0 ∷ 0 ∷ 0 ∷ 0 ∷ 0 ∷ 0 ∷ [])

-- The rows of the steps and of the areas, in order.
abbrev rows : List Script
rows = script table72 (refused (step 4294967295 checkpoint) 0 4 ∷ refused (step 2 (send 2)) 0 4 ∷ refused (step 2 (receipt 2 0)) 0 4
    ∷ refused (line 4294967295) 0 4 ∷ refused (failed 4294967295) 0 4 ∷ resend (0 ∷ 4294967295 ∷ []) [] 0 12 [] ∷ refused (step 4294967295 checkpoint) 3 4
    ∷ refused (step 2 (send 2)) 3 4 ∷ refused (step 2 (receipt 2 0)) 3 4 ∷ refused (line 4294967295) 3 4 ∷ refused (failed 4294967295) 3 4
    ∷ resend (0 ∷ 4294967295 ∷ []) [] 3 12 [] ∷ refused (step 4294967295 checkpoint) 4 5 ∷ refused (step 2 (send 2)) 4 4 ∷ refused (step 2 (receipt 2 0)) 4 4
    ∷ refused (line 4294967295) 4 4 ∷ refused (failed 4294967295) 4 4 ∷ resend (0 ∷ 4294967295 ∷ []) [] 4 12 [] ∷ refused (step 4294967295 checkpoint) 5 4
    ∷ refused (step 2 (send 2)) 5 4 ∷ refused (step 2 (receipt 2 0)) 5 4 ∷ refused (line 4294967295) 5 4 ∷ refused (failed 4294967295) 5 4
    ∷ resend (0 ∷ 4294967295 ∷ []) [] 5 12 [] ∷ refused (step 4294967295 checkpoint) 7 4 ∷ refused (step 2 (send 2)) 7 4 ∷ refused (step 2 (receipt 2 0)) 7 4
    ∷ refused (line 4294967295) 7 4 ∷ refused (failed 4294967295) 7 4 ∷ resend (0 ∷ 4294967295 ∷ []) [] 7 12 [] ∷ refused (step 4294967295 checkpoint) 8 4
    ∷ refused (step 2 (send 2)) 8 5 ∷ refused (step 2 (receipt 2 0)) 8 4 ∷ refused (line 4294967295) 8 15 ∷ refused (failed 4294967295) 8 4
    ∷ resend (0 ∷ 4294967295 ∷ []) [] 8 12 [] ∷ refused (step 4294967295 checkpoint) 9 4 ∷ refused (step 2 (send 2)) 9 4 ∷ refused (step 2 (receipt 2 0)) 9 4
    ∷ refused (line 4294967295) 9 4 ∷ refused (failed 4294967295) 9 4 ∷ resend (0 ∷ 4294967295 ∷ []) [] 9 12 [] ∷ refused (step 4294967295 checkpoint) 12 4
    ∷ refused (step 2 (send 2)) 12 4 ∷ refused (step 2 (receipt 2 0)) 12 4 ∷ refused (line 4294967295) 12 4 ∷ refused (failed 4294967295) 12 4
    ∷ resend (0 ∷ 4294967295 ∷ []) [] 12 12 [] ∷ refused (step 4294967295 checkpoint) 15 4 ∷ refused (step 2 (send 2)) 15 4
    ∷ refused (step 2 (receipt 2 0)) 15 4 ∷ refused (line 4294967295) 15 4 ∷ refused (failed 4294967295) 15 4 ∷ resend (0 ∷ 4294967295 ∷ []) [] 15 12 []
    ∷ refused (step 4294967295 checkpoint) 16 4 ∷ refused (step 2 (send 2)) 16 4 ∷ refused (step 2 (receipt 2 0)) 16 5 ∷ refused (line 4294967295) 16 4
    ∷ refused (failed 4294967295) 16 11 ∷ resend (0 ∷ 4294967295 ∷ []) [] 16 12 [] ∷ refused (step 4294967295 checkpoint) 17 4
    ∷ refused (step 2 (send 2)) 17 4 ∷ refused (step 2 (receipt 2 0)) 17 4 ∷ refused (line 4294967295) 17 4 ∷ refused (failed 4294967295) 17 4
    ∷ resend (0 ∷ 4294967295 ∷ []) [] 17 12 [] ∷ []) ∷ script table73 (refused (step 0 checkpoint) 4 9 ∷ refused (step 0 (send 1)) 8 9
    ∷ refused (step 3 checkpoint) 4 5 ∷ refused (step 4 checkpoint) 4 5 ∷ refused (step 4294967295 checkpoint) 4 5 ∷ refused (step 3 (send 3)) 8 5
    ∷ refused (step 4294967295 (send 4294967295)) 8 5 ∷ refused (step 0 (send 0)) 8 6 ∷ refused (step 0 (send 3)) 8 6 ∷ refused (step 0 (send 4294967295)) 8 6
    ∷ refused (step 0 (receipt 0 0)) 16 6 ∷ refused (step 0 (receipt 3 0)) 16 6 ∷ refused (step 0 (receipt 4294967295 0)) 16 6
    ∷ refused (step 0 (receipt 1 0)) 16 7 ∷ refused (step 0 (receipt 1 1)) 16 8 ∷ refused (step 0 (receipt 1 2)) 16 7 ∷ refused (step 0 (receipt 1 3)) 16 9
    ∷ refused (step 0 (receipt 1 4)) 16 7 ∷ refused (step 0 (receipt 1 5)) 16 7 ∷ refused (step 0 (receipt 1 4294967295)) 16 7 ∷ [])
    ∷ script table74 (refused (step 0 checkpoint) 4 10 ∷ accepted (step 0 (receipt 1 3)) 16 (2 ∷ 0 ∷ 4 ∷ 4 ∷ []) table75 ∷ [])
    ∷ script table76 (accepted (step 0 (receipt 1 3)) 16 (2 ∷ 0 ∷ 4 ∷ 4 ∷ []) table77 ∷ []) ∷ script table78 (refused (step 0 (receipt 1 3)) 16 9 ∷ []) ∷ []

pub rows_agree : Agree rows
unfolding fresh_on step_on line_on failed_on resend_on layout decoded well_laid word put_word put_words failure_answer failure_line rounds round ones ones_in in_transit
rows_agree = refl

abbrev table79 : List ℕ
table79 = bytes (2 ∷ 6 ∷ 6 ∷ 0 ∷ 3 ∷ 1 ∷ 5 ∷ 0 ∷ 0 ∷ 3 ∷ 1 ∷ 1 ∷ 5 ∷ 1 ∷ 2 ∷ 0 ∷ 0 ∷ 3 ∷ 1 ∷ 2 ∷ 2 ∷ 2 ∷ 0 ∷ 0 ∷ 0 ∷ 3 ∷ 1 ∷ 3 ∷ 0 ∷ 0 ∷ 0 ∷ 0 ∷ 0 ∷ 0 ∷ 0 ∷ 0
    ∷ 0 ∷ 0 ∷ 0 ∷ 0 ∷ 0 ∷ 0 ∷ 0 ∷ 0 ∷ 0 ∷ 0 ∷ 0 ∷ 0 ∷ 0 ∷ 0 ∷ 0 ∷ 0 ∷ 0 ∷ 0 ∷ 0 ∷ 0 ∷ [])

abbrev table80 : List ℕ
table80 = bytes (2 ∷ 6 ∷ 6 ∷ 0 ∷ 3 ∷ 1 ∷ 5 ∷ 0 ∷ 0 ∷ 3 ∷ 1 ∷ 1 ∷ 5 ∷ 1 ∷ 2 ∷ 0 ∷ 0 ∷ 3 ∷ 1 ∷ 2 ∷ 2 ∷ 2 ∷ 0 ∷ 0 ∷ 0 ∷ 3 ∷ 1 ∷ 3 ∷ 0 ∷ 2 ∷ 5 ∷ 0 ∷ 2 ∷ 5 ∷ 0 ∷ 0
    ∷ 4 ∷ 0 ∷ 1 ∷ 5 ∷ 0 ∷ 0 ∷ 0 ∷ 0 ∷ 0 ∷ 0 ∷ 0 ∷ 0 ∷ 0 ∷ 0 ∷ 0 ∷ 0 ∷ 0 ∷ 0 ∷ 0 ∷ 0 ∷ [])

abbrev table81 : List ℕ
table81 = bytes (2 ∷ 6 ∷ 6 ∷ 0 ∷ 3 ∷ 1 ∷ 5 ∷ 0 ∷ 0 ∷ 3 ∷ 1 ∷ 1 ∷ 5 ∷ 1 ∷ 2 ∷ 0 ∷ 0 ∷ 3 ∷ 1 ∷ 2 ∷ 2 ∷ 2 ∷ 0 ∷ 0 ∷ 0 ∷ 3 ∷ 1 ∷ 3 ∷ 0 ∷ 3 ∷ 5 ∷ 0 ∷ 2 ∷ 5 ∷ 0 ∷ 0
    ∷ 4 ∷ 0 ∷ 1 ∷ 5 ∷ 4 ∷ 0 ∷ 2 ∷ 2 ∷ 0 ∷ 0 ∷ 0 ∷ 0 ∷ 0 ∷ 0 ∷ 0 ∷ 0 ∷ 0 ∷ 0 ∷ 0 ∷ 0 ∷ [])

abbrev table82 : List ℕ
table82 = bytes (2 ∷ 6 ∷ 6 ∷ 0 ∷ 3 ∷ 1 ∷ 5 ∷ 0 ∷ 0 ∷ 3 ∷ 1 ∷ 1 ∷ 5 ∷ 1 ∷ 2 ∷ 0 ∷ 0 ∷ 3 ∷ 1 ∷ 2 ∷ 2 ∷ 2 ∷ 0 ∷ 0 ∷ 0 ∷ 3 ∷ 1 ∷ 3 ∷ 0 ∷ 4 ∷ 5 ∷ 0 ∷ 2 ∷ 5 ∷ 0 ∷ 0
    ∷ 4 ∷ 0 ∷ 1 ∷ 5 ∷ 4 ∷ 0 ∷ 2 ∷ 2 ∷ 4 ∷ 0 ∷ 3 ∷ 0 ∷ 0 ∷ 0 ∷ 0 ∷ 0 ∷ 0 ∷ 0 ∷ 0 ∷ 0 ∷ [])

abbrev table83 : List ℕ
table83 = bytes (2 ∷ 6 ∷ 6 ∷ 0 ∷ 3 ∷ 1 ∷ 5 ∷ 0 ∷ 0 ∷ 3 ∷ 1 ∷ 1 ∷ 5 ∷ 1 ∷ 2 ∷ 0 ∷ 0 ∷ 3 ∷ 1 ∷ 2 ∷ 2 ∷ 2 ∷ 0 ∷ 0 ∷ 0 ∷ 3 ∷ 1 ∷ 3 ∷ 0 ∷ 1 ∷ 0 ∷ 0 ∷ 4 ∷ 0 ∷ 3 ∷ 0
    ∷ 0 ∷ 0 ∷ 0 ∷ 0 ∷ 0 ∷ 0 ∷ 0 ∷ 0 ∷ 0 ∷ 0 ∷ 0 ∷ 0 ∷ 0 ∷ 0 ∷ 0 ∷ 0 ∷ 0 ∷ 0 ∷ 0 ∷ 0 ∷ [])

abbrev table84 : List ℕ
table84 = bytes (2 ∷ 6 ∷ 6 ∷ 0 ∷ 3 ∷ 1 ∷ 5 ∷ 0 ∷ 0 ∷ 3 ∷ 1 ∷ 1 ∷ 5 ∷ 1 ∷ 2 ∷ 0 ∷ 0 ∷ 3 ∷ 1 ∷ 2 ∷ 2 ∷ 2 ∷ 0 ∷ 0 ∷ 0 ∷ 3 ∷ 1 ∷ 3 ∷ 0 ∷ 3 ∷ 2 ∷ 0 ∷ 4 ∷ 0 ∷ 3 ∷ 0
    ∷ 2 ∷ 2 ∷ 0 ∷ 0 ∷ 4 ∷ 0 ∷ 2 ∷ 2 ∷ 0 ∷ 0 ∷ 0 ∷ 0 ∷ 0 ∷ 0 ∷ 0 ∷ 0 ∷ 0 ∷ 0 ∷ 0 ∷ 0 ∷ [])

abbrev table85 : List ℕ
table85 = bytes (2 ∷ 6 ∷ 6 ∷ 0 ∷ 3 ∷ 1 ∷ 5 ∷ 0 ∷ 0 ∷ 3 ∷ 1 ∷ 1 ∷ 5 ∷ 1 ∷ 2 ∷ 0 ∷ 0 ∷ 3 ∷ 1 ∷ 2 ∷ 2 ∷ 2 ∷ 0 ∷ 0 ∷ 0 ∷ 3 ∷ 1 ∷ 3 ∷ 0 ∷ 5 ∷ 5 ∷ 0 ∷ 4 ∷ 0 ∷ 3 ∷ 0
    ∷ 2 ∷ 2 ∷ 0 ∷ 0 ∷ 4 ∷ 0 ∷ 2 ∷ 2 ∷ 2 ∷ 5 ∷ 0 ∷ 0 ∷ 4 ∷ 0 ∷ 1 ∷ 5 ∷ 0 ∷ 0 ∷ 0 ∷ 0 ∷ [])

abbrev table86 : List ℕ
table86 = bytes (2 ∷ 6 ∷ 6 ∷ 0 ∷ 3 ∷ 1 ∷ 5 ∷ 0 ∷ 0 ∷ 3 ∷ 1 ∷ 1 ∷ 5 ∷ 1 ∷ 2 ∷ 0 ∷ 0 ∷ 3 ∷ 1 ∷ 2 ∷ 2 ∷ 2 ∷ 0 ∷ 0 ∷ 0 ∷ 3 ∷ 1 ∷ 3 ∷ 0 ∷ 2 ∷ 2 ∷ 0 ∷ 2 ∷ 2 ∷ 0 ∷ 0
    ∷ 4 ∷ 0 ∷ 2 ∷ 2 ∷ 0 ∷ 0 ∷ 0 ∷ 0 ∷ 0 ∷ 0 ∷ 0 ∷ 0 ∷ 0 ∷ 0 ∷ 0 ∷ 0 ∷ 0 ∷ 0 ∷ 0 ∷ 0 ∷ [])

abbrev table87 : List ℕ
table87 = bytes (2 ∷ 6 ∷ 6 ∷ 0 ∷ 3 ∷ 1 ∷ 5 ∷ 0 ∷ 0 ∷ 3 ∷ 1 ∷ 1 ∷ 5 ∷ 1 ∷ 2 ∷ 0 ∷ 0 ∷ 3 ∷ 1 ∷ 2 ∷ 2 ∷ 2 ∷ 0 ∷ 0 ∷ 0 ∷ 3 ∷ 1 ∷ 3 ∷ 0 ∷ 4 ∷ 5 ∷ 0 ∷ 2 ∷ 2 ∷ 0 ∷ 0
    ∷ 4 ∷ 0 ∷ 2 ∷ 2 ∷ 2 ∷ 5 ∷ 0 ∷ 0 ∷ 4 ∷ 0 ∷ 1 ∷ 5 ∷ 0 ∷ 0 ∷ 0 ∷ 0 ∷ 0 ∷ 0 ∷ 0 ∷ 0 ∷ [])

abbrev table88 : List ℕ
table88 = bytes (2 ∷ 6 ∷ 6 ∷ 0 ∷ 3 ∷ 1 ∷ 5 ∷ 0 ∷ 0 ∷ 3 ∷ 1 ∷ 1 ∷ 5 ∷ 1 ∷ 2 ∷ 0 ∷ 0 ∷ 3 ∷ 1 ∷ 2 ∷ 2 ∷ 2 ∷ 0 ∷ 0 ∷ 0 ∷ 3 ∷ 1 ∷ 3 ∷ 0 ∷ 5 ∷ 5 ∷ 0 ∷ 2 ∷ 2 ∷ 0 ∷ 0
    ∷ 4 ∷ 0 ∷ 2 ∷ 2 ∷ 2 ∷ 5 ∷ 0 ∷ 0 ∷ 4 ∷ 0 ∷ 1 ∷ 5 ∷ 4 ∷ 0 ∷ 3 ∷ 0 ∷ 0 ∷ 0 ∷ 0 ∷ 0 ∷ [])

abbrev table89 : List ℕ
table89 = bytes (3 ∷ 6 ∷ 1 ∷ 0 ∷ 1 ∷ 3 ∷ 1 ∷ 1 ∷ 0 ∷ 0 ∷ 0 ∷ 0 ∷ 0 ∷ 0 ∷ 0 ∷ 0 ∷ 0 ∷ 0 ∷ 0 ∷ 0 ∷ 0 ∷ 0 ∷ 0 ∷ 0 ∷ 0 ∷ 0 ∷ 0 ∷ 0 ∷ 0 ∷ 0 ∷ 0 ∷ 0 ∷ 0 ∷ 0 ∷ 0 ∷ 0
    ∷ 0 ∷ 0 ∷ 0 ∷ 0 ∷ 0 ∷ 0 ∷ 0 ∷ 0 ∷ 0 ∷ 0 ∷ 0 ∷ 0 ∷ 0 ∷ 0 ∷ 0 ∷ 0 ∷ 0 ∷ 0 ∷ 0 ∷ 0 ∷ 0 ∷ 0 ∷ 0 ∷ 0 ∷ 0 ∷ 0 ∷ 0 ∷ 0 ∷ 0 ∷ 0 ∷ 0 ∷ 0 ∷ 0 ∷ 0 ∷ 0 ∷ 0 ∷ 0 ∷ 0
    ∷ 0 ∷ 0 ∷ 0 ∷ 0 ∷ 0 ∷ 0 ∷ 0 ∷ 0 ∷ 0 ∷ [])

abbrev table90 : List ℕ
table90 = bytes (3 ∷ 6 ∷ 2 ∷ 1 ∷ 1 ∷ 3 ∷ 1 ∷ 1 ∷ 0 ∷ 1 ∷ 1 ∷ 0 ∷ 0 ∷ 0 ∷ 0 ∷ 0 ∷ 0 ∷ 0 ∷ 0 ∷ 0 ∷ 0 ∷ 0 ∷ 0 ∷ 0 ∷ 0 ∷ 0 ∷ 0 ∷ 0 ∷ 0 ∷ 0 ∷ 0 ∷ 0 ∷ 0 ∷ 0 ∷ 0 ∷ 0
    ∷ 0 ∷ 0 ∷ 0 ∷ 0 ∷ 0 ∷ 0 ∷ 0 ∷ 0 ∷ 0 ∷ 0 ∷ 0 ∷ 0 ∷ 0 ∷ 0 ∷ 0 ∷ 0 ∷ 0 ∷ 0 ∷ 0 ∷ 0 ∷ 0 ∷ 0 ∷ 0 ∷ 0 ∷ 0 ∷ 0 ∷ 0 ∷ 0 ∷ 0 ∷ 0 ∷ 0 ∷ 0 ∷ 0 ∷ 0 ∷ 0 ∷ 0 ∷ 0 ∷ 0
    ∷ 0 ∷ 0 ∷ 0 ∷ 0 ∷ 0 ∷ 0 ∷ 0 ∷ 0 ∷ 0 ∷ [])

abbrev table91 : List ℕ
table91 = bytes (3 ∷ 6 ∷ 3 ∷ 2 ∷ 1 ∷ 3 ∷ 1 ∷ 1 ∷ 0 ∷ 1 ∷ 1 ∷ 0 ∷ 0 ∷ 1 ∷ 2 ∷ 0 ∷ 0 ∷ 0 ∷ 0 ∷ 0 ∷ 0 ∷ 0 ∷ 0 ∷ 0 ∷ 0 ∷ 0 ∷ 0 ∷ 0 ∷ 0 ∷ 0 ∷ 0 ∷ 0 ∷ 0 ∷ 0 ∷ 0 ∷ 0
    ∷ 0 ∷ 0 ∷ 0 ∷ 0 ∷ 0 ∷ 0 ∷ 0 ∷ 0 ∷ 0 ∷ 0 ∷ 0 ∷ 0 ∷ 0 ∷ 0 ∷ 0 ∷ 0 ∷ 0 ∷ 0 ∷ 0 ∷ 0 ∷ 0 ∷ 0 ∷ 0 ∷ 0 ∷ 0 ∷ 0 ∷ 0 ∷ 0 ∷ 0 ∷ 0 ∷ 0 ∷ 0 ∷ 0 ∷ 0 ∷ 0 ∷ 0 ∷ 0 ∷ 0
    ∷ 0 ∷ 0 ∷ 0 ∷ 0 ∷ 0 ∷ 0 ∷ 0 ∷ 0 ∷ 0 ∷ [])

abbrev table92 : List ℕ
table92 = bytes (3 ∷ 6 ∷ 4 ∷ 2 ∷ 2 ∷ 3 ∷ 1 ∷ 1 ∷ 0 ∷ 1 ∷ 1 ∷ 0 ∷ 0 ∷ 1 ∷ 2 ∷ 0 ∷ 0 ∷ 3 ∷ 1 ∷ 2 ∷ 2 ∷ 0 ∷ 0 ∷ 0 ∷ 0 ∷ 0 ∷ 0 ∷ 0 ∷ 0 ∷ 0 ∷ 0 ∷ 0 ∷ 0 ∷ 0 ∷ 0 ∷ 0
    ∷ 0 ∷ 0 ∷ 0 ∷ 0 ∷ 0 ∷ 0 ∷ 0 ∷ 0 ∷ 0 ∷ 0 ∷ 0 ∷ 0 ∷ 0 ∷ 0 ∷ 0 ∷ 0 ∷ 0 ∷ 0 ∷ 0 ∷ 0 ∷ 0 ∷ 0 ∷ 0 ∷ 0 ∷ 0 ∷ 0 ∷ 0 ∷ 0 ∷ 0 ∷ 0 ∷ 0 ∷ 0 ∷ 0 ∷ 0 ∷ 0 ∷ 0 ∷ 0 ∷ 0
    ∷ 0 ∷ 0 ∷ 0 ∷ 0 ∷ 0 ∷ 0 ∷ 0 ∷ 0 ∷ 0 ∷ [])

abbrev table93 : List ℕ
table93 = bytes (3 ∷ 6 ∷ 4 ∷ 2 ∷ 2 ∷ 3 ∷ 1 ∷ 1 ∷ 0 ∷ 1 ∷ 1 ∷ 0 ∷ 0 ∷ 1 ∷ 2 ∷ 0 ∷ 0 ∷ 3 ∷ 1 ∷ 2 ∷ 2 ∷ 0 ∷ 0 ∷ 0 ∷ 0 ∷ 0 ∷ 0 ∷ 0 ∷ 0 ∷ 2 ∷ 2 ∷ 0 ∷ 2 ∷ 2 ∷ 0 ∷ 0
    ∷ 4 ∷ 0 ∷ 2 ∷ 2 ∷ 0 ∷ 0 ∷ 0 ∷ 0 ∷ 0 ∷ 0 ∷ 0 ∷ 0 ∷ 0 ∷ 0 ∷ 0 ∷ 0 ∷ 0 ∷ 0 ∷ 0 ∷ 0 ∷ 0 ∷ 0 ∷ 0 ∷ 0 ∷ 0 ∷ 0 ∷ 0 ∷ 0 ∷ 0 ∷ 0 ∷ 0 ∷ 0 ∷ 0 ∷ 0 ∷ 0 ∷ 0 ∷ 0 ∷ 0
    ∷ 0 ∷ 0 ∷ 0 ∷ 0 ∷ 0 ∷ 0 ∷ 0 ∷ 0 ∷ 0 ∷ [])

abbrev table94 : List ℕ
table94 = bytes (3 ∷ 6 ∷ 4 ∷ 2 ∷ 2 ∷ 3 ∷ 1 ∷ 1 ∷ 0 ∷ 1 ∷ 1 ∷ 0 ∷ 0 ∷ 1 ∷ 2 ∷ 0 ∷ 0 ∷ 3 ∷ 1 ∷ 2 ∷ 2 ∷ 0 ∷ 0 ∷ 0 ∷ 0 ∷ 0 ∷ 0 ∷ 0 ∷ 0 ∷ 3 ∷ 2 ∷ 1 ∷ 2 ∷ 2 ∷ 0 ∷ 0
    ∷ 4 ∷ 0 ∷ 2 ∷ 2 ∷ 3 ∷ 2 ∷ 1 ∷ 2 ∷ 0 ∷ 0 ∷ 0 ∷ 0 ∷ 0 ∷ 0 ∷ 0 ∷ 0 ∷ 0 ∷ 0 ∷ 0 ∷ 0 ∷ 0 ∷ 0 ∷ 0 ∷ 0 ∷ 0 ∷ 0 ∷ 0 ∷ 0 ∷ 0 ∷ 0 ∷ 0 ∷ 0 ∷ 0 ∷ 0 ∷ 0 ∷ 0 ∷ 0 ∷ 0
    ∷ 0 ∷ 0 ∷ 0 ∷ 0 ∷ 0 ∷ 0 ∷ 0 ∷ 0 ∷ 0 ∷ [])

abbrev table95 : List ℕ
table95 = bytes (3 ∷ 6 ∷ 4 ∷ 2 ∷ 2 ∷ 3 ∷ 1 ∷ 1 ∷ 0 ∷ 1 ∷ 1 ∷ 0 ∷ 0 ∷ 1 ∷ 2 ∷ 0 ∷ 0 ∷ 3 ∷ 1 ∷ 2 ∷ 2 ∷ 0 ∷ 0 ∷ 0 ∷ 0 ∷ 0 ∷ 0 ∷ 0 ∷ 0 ∷ 4 ∷ 2 ∷ 1 ∷ 2 ∷ 2 ∷ 0 ∷ 0
    ∷ 4 ∷ 0 ∷ 2 ∷ 2 ∷ 3 ∷ 2 ∷ 1 ∷ 2 ∷ 4 ∷ 0 ∷ 1 ∷ 0 ∷ 0 ∷ 0 ∷ 0 ∷ 0 ∷ 0 ∷ 0 ∷ 0 ∷ 0 ∷ 0 ∷ 0 ∷ 0 ∷ 0 ∷ 0 ∷ 0 ∷ 0 ∷ 0 ∷ 0 ∷ 0 ∷ 0 ∷ 0 ∷ 0 ∷ 0 ∷ 0 ∷ 0 ∷ 0 ∷ 0
    ∷ 0 ∷ 0 ∷ 0 ∷ 0 ∷ 0 ∷ 0 ∷ 0 ∷ 0 ∷ 0 ∷ [])

abbrev table96 : List ℕ
table96 = bytes (3 ∷ 6 ∷ 4 ∷ 2 ∷ 2 ∷ 3 ∷ 1 ∷ 1 ∷ 0 ∷ 1 ∷ 1 ∷ 0 ∷ 0 ∷ 1 ∷ 2 ∷ 0 ∷ 0 ∷ 3 ∷ 1 ∷ 2 ∷ 2 ∷ 0 ∷ 0 ∷ 0 ∷ 0 ∷ 0 ∷ 0 ∷ 0 ∷ 0 ∷ 4 ∷ 2 ∷ 1 ∷ 2 ∷ 2 ∷ 0 ∷ 0
    ∷ 4 ∷ 0 ∷ 2 ∷ 2 ∷ 3 ∷ 2 ∷ 1 ∷ 2 ∷ 4 ∷ 0 ∷ 1 ∷ 0 ∷ 0 ∷ 0 ∷ 0 ∷ 0 ∷ 0 ∷ 0 ∷ 0 ∷ 0 ∷ 1 ∷ 1 ∷ 0 ∷ 1 ∷ 1 ∷ 0 ∷ 0 ∷ 0 ∷ 0 ∷ 0 ∷ 0 ∷ 0 ∷ 0 ∷ 0 ∷ 0 ∷ 0 ∷ 0 ∷ 0
    ∷ 0 ∷ 0 ∷ 0 ∷ 0 ∷ 0 ∷ 0 ∷ 0 ∷ 0 ∷ 0 ∷ [])

abbrev table97 : List ℕ
table97 = bytes (3 ∷ 6 ∷ 4 ∷ 2 ∷ 2 ∷ 3 ∷ 1 ∷ 1 ∷ 0 ∷ 1 ∷ 1 ∷ 0 ∷ 0 ∷ 1 ∷ 2 ∷ 0 ∷ 0 ∷ 3 ∷ 1 ∷ 2 ∷ 2 ∷ 0 ∷ 0 ∷ 0 ∷ 0 ∷ 0 ∷ 0 ∷ 0 ∷ 0 ∷ 4 ∷ 2 ∷ 1 ∷ 2 ∷ 2 ∷ 0 ∷ 0
    ∷ 4 ∷ 0 ∷ 2 ∷ 2 ∷ 3 ∷ 2 ∷ 1 ∷ 2 ∷ 4 ∷ 0 ∷ 1 ∷ 0 ∷ 0 ∷ 0 ∷ 0 ∷ 0 ∷ 0 ∷ 0 ∷ 0 ∷ 0 ∷ 3 ∷ 2 ∷ 0 ∷ 1 ∷ 1 ∷ 0 ∷ 0 ∷ 2 ∷ 2 ∷ 0 ∷ 0 ∷ 4 ∷ 1 ∷ 1 ∷ 2 ∷ 0 ∷ 0 ∷ 0
    ∷ 0 ∷ 0 ∷ 0 ∷ 0 ∷ 0 ∷ 0 ∷ 0 ∷ 0 ∷ 0 ∷ [])

abbrev table98 : List ℕ
table98 = bytes (3 ∷ 6 ∷ 4 ∷ 2 ∷ 2 ∷ 3 ∷ 1 ∷ 1 ∷ 0 ∷ 1 ∷ 1 ∷ 0 ∷ 0 ∷ 1 ∷ 2 ∷ 0 ∷ 0 ∷ 3 ∷ 1 ∷ 2 ∷ 2 ∷ 0 ∷ 0 ∷ 0 ∷ 0 ∷ 0 ∷ 0 ∷ 0 ∷ 0 ∷ 4 ∷ 2 ∷ 1 ∷ 2 ∷ 2 ∷ 0 ∷ 0
    ∷ 4 ∷ 0 ∷ 2 ∷ 2 ∷ 3 ∷ 2 ∷ 1 ∷ 2 ∷ 4 ∷ 0 ∷ 1 ∷ 0 ∷ 0 ∷ 0 ∷ 0 ∷ 0 ∷ 0 ∷ 0 ∷ 0 ∷ 0 ∷ 4 ∷ 2 ∷ 1 ∷ 1 ∷ 1 ∷ 0 ∷ 0 ∷ 2 ∷ 2 ∷ 0 ∷ 0 ∷ 4 ∷ 1 ∷ 1 ∷ 2 ∷ 3 ∷ 0 ∷ 1
    ∷ 2 ∷ 0 ∷ 0 ∷ 0 ∷ 0 ∷ 0 ∷ 0 ∷ 0 ∷ 0 ∷ [])

abbrev table99 : List ℕ
table99 = bytes (3 ∷ 6 ∷ 5 ∷ 2 ∷ 2 ∷ 3 ∷ 1 ∷ 1 ∷ 0 ∷ 1 ∷ 1 ∷ 0 ∷ 0 ∷ 1 ∷ 2 ∷ 0 ∷ 0 ∷ 3 ∷ 1 ∷ 2 ∷ 2 ∷ 4 ∷ 2 ∷ 1 ∷ 2 ∷ 0 ∷ 0 ∷ 0 ∷ 0 ∷ 4 ∷ 2 ∷ 1 ∷ 2 ∷ 2 ∷ 0 ∷ 0
    ∷ 4 ∷ 0 ∷ 2 ∷ 2 ∷ 3 ∷ 2 ∷ 1 ∷ 2 ∷ 4 ∷ 0 ∷ 1 ∷ 0 ∷ 0 ∷ 0 ∷ 0 ∷ 0 ∷ 0 ∷ 0 ∷ 0 ∷ 0 ∷ 4 ∷ 2 ∷ 1 ∷ 1 ∷ 1 ∷ 0 ∷ 0 ∷ 2 ∷ 2 ∷ 0 ∷ 0 ∷ 4 ∷ 1 ∷ 1 ∷ 2 ∷ 3 ∷ 0 ∷ 1
    ∷ 2 ∷ 0 ∷ 0 ∷ 0 ∷ 0 ∷ 0 ∷ 0 ∷ 0 ∷ 0 ∷ [])

-- Receipts that force and receipts that don't: carried numbers that fall, received in three orders, and a chain of forced ones.
abbrev forced : List Script
forced = script table79 (accepted (step 1 (receipt 0 1)) 16 (5 ∷ 1 ∷ 2 ∷ 2 ∷ []) table80 ∷ accepted (step 1 (receipt 0 2)) 16 (2 ∷ 0 ∷ 4 ∷ 3 ∷ []) table81
    ∷ accepted (step 1 (receipt 0 3)) 16 (0 ∷ 0 ∷ 6 ∷ 4 ∷ []) table82 ∷ []) ∷ script table79 (accepted (step 1 (receipt 0 3)) 16 (0 ∷ 0 ∷ 6 ∷ 1 ∷ []) table83
    ∷ accepted (step 1 (receipt 0 2)) 16 (2 ∷ 1 ∷ 4 ∷ 3 ∷ []) table84 ∷ accepted (step 1 (receipt 0 1)) 16 (5 ∷ 1 ∷ 2 ∷ 5 ∷ []) table85 ∷ [])
    ∷ script table79 (accepted (step 1 (receipt 0 2)) 16 (2 ∷ 1 ∷ 4 ∷ 2 ∷ []) table86 ∷ accepted (step 1 (receipt 0 1)) 16 (5 ∷ 1 ∷ 2 ∷ 4 ∷ []) table87
    ∷ accepted (step 1 (receipt 0 3)) 16 (0 ∷ 0 ∷ 6 ∷ 5 ∷ []) table88 ∷ []) ∷ script (lent 332) (accepted (fresh 3 6) 0 [] table0
    ∷ accepted (step 0 (send 1)) 8 (1 ∷ 0 ∷ []) table89 ∷ accepted (step 0 checkpoint) 4 (1 ∷ []) table90 ∷ accepted (step 0 checkpoint) 4 (2 ∷ []) table91
    ∷ accepted (step 0 (send 1)) 8 (2 ∷ 2 ∷ []) table92 ∷ accepted (step 1 (receipt 0 2)) 16 (2 ∷ 1 ∷ 4 ∷ 2 ∷ []) table93
    ∷ accepted (step 1 (send 2)) 8 (1 ∷ 2 ∷ []) table94 ∷ accepted (step 1 (receipt 0 1)) 16 (0 ∷ 0 ∷ 1 ∷ 4 ∷ []) table95
    ∷ accepted (step 2 checkpoint) 4 (1 ∷ []) table96 ∷ accepted (step 2 (receipt 1 1)) 16 (2 ∷ 1 ∷ 3 ∷ 3 ∷ []) table97
    ∷ accepted (step 2 (send 0)) 8 (1 ∷ 2 ∷ []) table98 ∷ accepted (step 0 (receipt 2 1)) 16 (2 ∷ 0 ∷ 4 ∷ 5 ∷ []) table99
    ∷ accepted (line 1) 12 (2 ∷ 1 ∷ 1 ∷ []) table99 ∷ accepted (line 2) 12 (3 ∷ 1 ∷ 2 ∷ []) table99 ∷ []) ∷ []

pub forced_agree : Agree forced
unfolding fresh_on step_on line_on failed_on resend_on layout decoded well_laid word put_word put_words failure_answer failure_line rounds round ones ones_in in_transit
forced_agree = refl

abbrev table100 : List ℕ
table100 = bytes (3 ∷ 8 ∷ 8 ∷ 3 ∷ 4 ∷ 3 ∷ 1 ∷ 1 ∷ 0 ∷ 4 ∷ 1 ∷ 1 ∷ 0 ∷ 3 ∷ 2 ∷ 2 ∷ 0 ∷ 1 ∷ 1 ∷ 0 ∷ 0 ∷ 3 ∷ 1 ∷ 3 ∷ 1 ∷ 2 ∷ 3 ∷ 0 ∷ 0 ∷ 4 ∷ 2 ∷ 1 ∷ 0 ∷ 3 ∷ 1
    ∷ 4 ∷ 3 ∷ 2 ∷ 1 ∷ 1 ∷ 3 ∷ 0 ∷ 1 ∷ 0 ∷ 1 ∷ 1 ∷ 0 ∷ 0 ∷ 0 ∷ 0 ∷ 0 ∷ 0 ∷ 0 ∷ 0 ∷ 0 ∷ 0 ∷ 0 ∷ 0 ∷ 0 ∷ 0 ∷ 0 ∷ 0 ∷ 0 ∷ 0 ∷ 0 ∷ 0 ∷ 0 ∷ 0 ∷ 0 ∷ 0 ∷ 0 ∷ 0 ∷ 0
    ∷ 0 ∷ 0 ∷ 0 ∷ 0 ∷ 0 ∷ 0 ∷ 0 ∷ 0 ∷ 0 ∷ 0 ∷ 0 ∷ 0 ∷ 0 ∷ 0 ∷ 0 ∷ 0 ∷ 0 ∷ 0 ∷ 0 ∷ 0 ∷ 0 ∷ 0 ∷ 0 ∷ 0 ∷ 0 ∷ 0 ∷ 0 ∷ 0 ∷ 0 ∷ 0 ∷ 0 ∷ 0 ∷ 0 ∷ 0 ∷ [])

abbrev table101 : List ℕ
table101 = bytes (3 ∷ 8 ∷ 8 ∷ 3 ∷ 4 ∷ 3 ∷ 1 ∷ 1 ∷ 0 ∷ 4 ∷ 1 ∷ 1 ∷ 0 ∷ 3 ∷ 2 ∷ 2 ∷ 0 ∷ 1 ∷ 1 ∷ 0 ∷ 0 ∷ 3 ∷ 1 ∷ 3 ∷ 1 ∷ 2 ∷ 3 ∷ 0 ∷ 0 ∷ 4 ∷ 2 ∷ 1 ∷ 0 ∷ 3 ∷ 1
    ∷ 4 ∷ 3 ∷ 4 ∷ 3 ∷ 1 ∷ 3 ∷ 0 ∷ 1 ∷ 0 ∷ 1 ∷ 1 ∷ 0 ∷ 0 ∷ 2 ∷ 3 ∷ 0 ∷ 0 ∷ 4 ∷ 0 ∷ 4 ∷ 3 ∷ 0 ∷ 0 ∷ 0 ∷ 0 ∷ 0 ∷ 0 ∷ 0 ∷ 0 ∷ 0 ∷ 0 ∷ 0 ∷ 0 ∷ 0 ∷ 0 ∷ 0 ∷ 0 ∷ 0
    ∷ 0 ∷ 0 ∷ 0 ∷ 0 ∷ 0 ∷ 0 ∷ 0 ∷ 0 ∷ 0 ∷ 0 ∷ 0 ∷ 0 ∷ 0 ∷ 0 ∷ 0 ∷ 0 ∷ 0 ∷ 0 ∷ 0 ∷ 0 ∷ 0 ∷ 0 ∷ 0 ∷ 0 ∷ 0 ∷ 0 ∷ 0 ∷ 0 ∷ 0 ∷ 0 ∷ 0 ∷ 0 ∷ 0 ∷ 0 ∷ [])

abbrev table102 : List ℕ
table102 = bytes (3 ∷ 8 ∷ 8 ∷ 3 ∷ 4 ∷ 3 ∷ 1 ∷ 1 ∷ 0 ∷ 4 ∷ 1 ∷ 1 ∷ 0 ∷ 3 ∷ 2 ∷ 2 ∷ 0 ∷ 1 ∷ 1 ∷ 0 ∷ 0 ∷ 3 ∷ 1 ∷ 3 ∷ 1 ∷ 2 ∷ 3 ∷ 0 ∷ 0 ∷ 4 ∷ 2 ∷ 1 ∷ 0 ∷ 3 ∷ 1
    ∷ 4 ∷ 3 ∷ 4 ∷ 3 ∷ 1 ∷ 3 ∷ 0 ∷ 1 ∷ 0 ∷ 1 ∷ 1 ∷ 0 ∷ 0 ∷ 2 ∷ 3 ∷ 0 ∷ 0 ∷ 4 ∷ 0 ∷ 4 ∷ 3 ∷ 0 ∷ 0 ∷ 0 ∷ 0 ∷ 0 ∷ 0 ∷ 0 ∷ 0 ∷ 0 ∷ 0 ∷ 0 ∷ 0 ∷ 0 ∷ 0 ∷ 0 ∷ 0 ∷ 1
    ∷ 0 ∷ 0 ∷ 4 ∷ 0 ∷ 2 ∷ 0 ∷ 0 ∷ 0 ∷ 0 ∷ 0 ∷ 0 ∷ 0 ∷ 0 ∷ 0 ∷ 0 ∷ 0 ∷ 0 ∷ 0 ∷ 0 ∷ 0 ∷ 0 ∷ 0 ∷ 0 ∷ 0 ∷ 0 ∷ 0 ∷ 0 ∷ 0 ∷ 0 ∷ 0 ∷ 0 ∷ 0 ∷ 0 ∷ 0 ∷ [])

abbrev table103 : List ℕ
table103 = bytes (3 ∷ 8 ∷ 8 ∷ 3 ∷ 4 ∷ 3 ∷ 1 ∷ 1 ∷ 0 ∷ 4 ∷ 1 ∷ 1 ∷ 0 ∷ 3 ∷ 2 ∷ 2 ∷ 0 ∷ 1 ∷ 1 ∷ 0 ∷ 0 ∷ 3 ∷ 1 ∷ 3 ∷ 1 ∷ 2 ∷ 3 ∷ 0 ∷ 0 ∷ 4 ∷ 2 ∷ 1 ∷ 0 ∷ 3 ∷ 1
    ∷ 4 ∷ 3 ∷ 5 ∷ 3 ∷ 1 ∷ 3 ∷ 0 ∷ 1 ∷ 0 ∷ 1 ∷ 1 ∷ 0 ∷ 0 ∷ 2 ∷ 3 ∷ 0 ∷ 0 ∷ 4 ∷ 0 ∷ 4 ∷ 3 ∷ 4 ∷ 0 ∷ 1 ∷ 0 ∷ 0 ∷ 0 ∷ 0 ∷ 0 ∷ 0 ∷ 0 ∷ 0 ∷ 0 ∷ 0 ∷ 0 ∷ 0 ∷ 0 ∷ 1
    ∷ 0 ∷ 0 ∷ 4 ∷ 0 ∷ 2 ∷ 0 ∷ 0 ∷ 0 ∷ 0 ∷ 0 ∷ 0 ∷ 0 ∷ 0 ∷ 0 ∷ 0 ∷ 0 ∷ 0 ∷ 0 ∷ 0 ∷ 0 ∷ 0 ∷ 0 ∷ 0 ∷ 0 ∷ 0 ∷ 0 ∷ 0 ∷ 0 ∷ 0 ∷ 0 ∷ 0 ∷ 0 ∷ 0 ∷ 0 ∷ [])

abbrev table104 : List ℕ
table104 = bytes (3 ∷ 8 ∷ 8 ∷ 3 ∷ 4 ∷ 3 ∷ 1 ∷ 1 ∷ 0 ∷ 4 ∷ 1 ∷ 1 ∷ 0 ∷ 3 ∷ 2 ∷ 2 ∷ 0 ∷ 1 ∷ 1 ∷ 0 ∷ 0 ∷ 3 ∷ 1 ∷ 3 ∷ 1 ∷ 2 ∷ 3 ∷ 0 ∷ 0 ∷ 4 ∷ 2 ∷ 1 ∷ 0 ∷ 3 ∷ 1
    ∷ 4 ∷ 3 ∷ 6 ∷ 3 ∷ 1 ∷ 3 ∷ 0 ∷ 1 ∷ 0 ∷ 1 ∷ 1 ∷ 0 ∷ 0 ∷ 2 ∷ 3 ∷ 0 ∷ 0 ∷ 4 ∷ 0 ∷ 4 ∷ 3 ∷ 4 ∷ 0 ∷ 1 ∷ 0 ∷ 4 ∷ 0 ∷ 3 ∷ 1 ∷ 0 ∷ 0 ∷ 0 ∷ 0 ∷ 0 ∷ 0 ∷ 0 ∷ 0 ∷ 1
    ∷ 0 ∷ 0 ∷ 4 ∷ 0 ∷ 2 ∷ 0 ∷ 0 ∷ 0 ∷ 0 ∷ 0 ∷ 0 ∷ 0 ∷ 0 ∷ 0 ∷ 0 ∷ 0 ∷ 0 ∷ 0 ∷ 0 ∷ 0 ∷ 0 ∷ 0 ∷ 0 ∷ 0 ∷ 0 ∷ 0 ∷ 0 ∷ 0 ∷ 0 ∷ 0 ∷ 0 ∷ 0 ∷ 0 ∷ 0 ∷ [])

-- Receipts of sends that stand between records of every kind, with the places of both.
abbrev places : List Script
places = script table100 (accepted (step 1 (receipt 0 4)) 16 (3 ∷ 1 ∷ 8 ∷ 4 ∷ []) table101 ∷ accepted (step 2 (receipt 0 2)) 16 (0 ∷ 0 ∷ 3 ∷ 1 ∷ []) table102
    ∷ accepted (step 1 (receipt 0 1)) 16 (0 ∷ 0 ∷ 1 ∷ 5 ∷ []) table103 ∷ accepted (step 1 (receipt 0 3)) 16 (1 ∷ 0 ∷ 5 ∷ 6 ∷ []) table104
    ∷ refused (step 2 (receipt 0 3)) 16 7 ∷ []) ∷ []

pub places_agree : Agree places
unfolding fresh_on step_on line_on failed_on resend_on layout decoded well_laid word put_word put_words failure_answer failure_line rounds round ones ones_in in_transit
places_agree = refl

abbrev table105 : List ℕ
table105 = bytes (2 ∷ 7 ∷ 7 ∷ 0 ∷ 3 ∷ 3 ∷ 1 ∷ 1 ∷ 0 ∷ 4 ∷ 1 ∷ 1 ∷ 0 ∷ 1 ∷ 0 ∷ 0 ∷ 0 ∷ 3 ∷ 1 ∷ 2 ∷ 0 ∷ 4 ∷ 1 ∷ 2 ∷ 0 ∷ 1 ∷ 0 ∷ 0 ∷ 0 ∷ 3 ∷ 1 ∷ 3 ∷ 0 ∷ 7 ∷ 0
    ∷ 2 ∷ 4 ∷ 0 ∷ 1 ∷ 0 ∷ 1 ∷ 0 ∷ 0 ∷ 0 ∷ 3 ∷ 0 ∷ 1 ∷ 0 ∷ 4 ∷ 0 ∷ 2 ∷ 0 ∷ 1 ∷ 0 ∷ 0 ∷ 0 ∷ 3 ∷ 0 ∷ 2 ∷ 0 ∷ 4 ∷ 0 ∷ 3 ∷ 0 ∷ [])

-- A failure line that falls to the start, a checkpoint a round.
abbrev fall : List Script
fall = script table105 (accepted (line 0) 8 (0 ∷ 0 ∷ []) table105 ∷ refused (line 1) 8 15 ∷ accepted (failed 0) 16 (7 ∷ 7 ∷ 0 ∷ 0 ∷ []) table105
    ∷ accepted (failed 1) 16 (0 ∷ 0 ∷ 3 ∷ 2 ∷ []) table105 ∷ accepted (failed 2) 16 (0 ∷ 0 ∷ 3 ∷ 2 ∷ []) table105
    ∷ accepted (failed 3) 16 (0 ∷ 0 ∷ 3 ∷ 2 ∷ []) table105 ∷ refused (failed 4) 16 11 ∷ refused (failed 4294967295) 16 11 ∷ []) ∷ []

pub fall_agree : Agree fall
unfolding fresh_on step_on line_on failed_on resend_on layout decoded well_laid word put_word put_words failure_answer failure_line rounds round ones ones_in in_transit
fall_agree = refl

abbrev table106 : List ℕ
table106 = bytes (1 ∷ 1 ∷ 0 ∷ 0 ∷ 0 ∷ 0 ∷ 0 ∷ 0 ∷ 0 ∷ [])

abbrev table107 : List ℕ
table107 = bytes (1 ∷ 1 ∷ 1 ∷ 1 ∷ 0 ∷ 1 ∷ 1 ∷ 0 ∷ 0 ∷ [])

-- A run from fresh: n = 1, E = 1.
abbrev run0 : List Script
run0 = script (lent 36) (accepted (fresh 1 1) 0 [] table106 ∷ accepted (step 0 checkpoint) 4 (1 ∷ []) table107 ∷ refused (step 0 (send 0)) 8 6
    ∷ refused (step 0 (send 0)) 8 6 ∷ refused (step 0 (send 0)) 8 6 ∷ refused (step 0 (send 0)) 8 6 ∷ refused (step 0 (send 257)) 8 6
    ∷ accepted (line 0) 4 (0 ∷ []) table107 ∷ accepted (line 1) 4 (1 ∷ []) table107 ∷ refused (line 2) 4 15 ∷ refused (line 3) 4 15
    ∷ accepted (line 1) 4 (1 ∷ []) table107 ∷ refused (line 4294967295) 4 15 ∷ accepted (failed 0) 12 (1 ∷ 0 ∷ 0 ∷ []) table107
    ∷ accepted (failed 1) 12 (1 ∷ 1 ∷ 1 ∷ []) table107 ∷ refused (failed 2) 12 11 ∷ refused (failed 4294967295) 12 11 ∷ []) ∷ []

pub run0_agree : Agree run0
unfolding fresh_on step_on line_on failed_on resend_on layout decoded well_laid word put_word put_words failure_answer failure_line rounds round ones ones_in in_transit
run0_agree = refl

abbrev table108 : List ℕ
table108 = bytes (1 ∷ 4 ∷ 0 ∷ 0 ∷ 0 ∷ 0 ∷ 0 ∷ 0 ∷ 0 ∷ 0 ∷ 0 ∷ 0 ∷ 0 ∷ 0 ∷ 0 ∷ 0 ∷ 0 ∷ 0 ∷ 0 ∷ 0 ∷ 0 ∷ [])

abbrev table109 : List ℕ
table109 = bytes (1 ∷ 4 ∷ 1 ∷ 1 ∷ 0 ∷ 1 ∷ 1 ∷ 0 ∷ 0 ∷ 0 ∷ 0 ∷ 0 ∷ 0 ∷ 0 ∷ 0 ∷ 0 ∷ 0 ∷ 0 ∷ 0 ∷ 0 ∷ 0 ∷ [])

-- A run from fresh: n = 1, E = 4.
abbrev run1 : List Script
run1 = script (lent 84) (accepted (fresh 1 4) 0 [] table108 ∷ accepted (step 0 checkpoint) 4 (1 ∷ []) table109 ∷ refused (step 0 (send 0)) 8 6
    ∷ refused (step 0 (send 0)) 8 6 ∷ refused (step 0 (send 0)) 16 4 ∷ refused (step 0 (send 0)) 8 6 ∷ refused (step 0 (send 0)) 8 6
    ∷ refused (step 255 checkpoint) 4 5 ∷ refused (step 0 (send 0)) 8 6 ∷ refused (step 0 (send 0)) 8 6 ∷ refused (step 0 (send 0)) 8 6
    ∷ refused (step 0 (send 0)) 8 6 ∷ refused (step 0 (send 0)) 8 6 ∷ accepted (line 0) 4 (0 ∷ []) table109 ∷ accepted (line 1) 4 (1 ∷ []) table109
    ∷ refused (line 2) 4 15 ∷ refused (line 3) 4 15 ∷ refused (line 4) 4 15 ∷ refused (line 4294967295) 4 15
    ∷ accepted (failed 0) 12 (1 ∷ 0 ∷ 0 ∷ []) table109 ∷ accepted (failed 1) 12 (1 ∷ 1 ∷ 1 ∷ []) table109 ∷ refused (failed 2) 12 11
    ∷ refused (failed 4294967295) 12 11 ∷ []) ∷ []

pub run1_agree : Agree run1
unfolding fresh_on step_on line_on failed_on resend_on layout decoded well_laid word put_word put_words failure_answer failure_line rounds round ones ones_in in_transit
run1_agree = refl

abbrev table110 : List ℕ
table110 = bytes (2 ∷ 1 ∷ 0 ∷ 0 ∷ 0 ∷ 0 ∷ 0 ∷ 0 ∷ 0 ∷ 0 ∷ 0 ∷ 0 ∷ 0 ∷ 0 ∷ 0 ∷ 0 ∷ [])

abbrev table111 : List ℕ
table111 = bytes (2 ∷ 1 ∷ 1 ∷ 0 ∷ 1 ∷ 3 ∷ 1 ∷ 1 ∷ 0 ∷ 0 ∷ 0 ∷ 0 ∷ 0 ∷ 0 ∷ 0 ∷ 0 ∷ [])

abbrev table112 : List ℕ
table112 = bytes (2 ∷ 1 ∷ 1 ∷ 0 ∷ 1 ∷ 3 ∷ 1 ∷ 1 ∷ 0 ∷ 1 ∷ 0 ∷ 0 ∷ 4 ∷ 0 ∷ 1 ∷ 0 ∷ [])

-- A run from fresh: n = 2, E = 1.
abbrev run2 : List Script
run2 = script (lent 64) (accepted (fresh 2 1) 0 [] table110 ∷ accepted (step 0 (send 1)) 8 (1 ∷ 0 ∷ []) table111
    ∷ accepted (step 1 (receipt 0 1)) 16 (0 ∷ 0 ∷ 1 ∷ 1 ∷ []) table112 ∷ refused (step 1 (send 0)) 8 9 ∷ refused (step 2147483648 (send 1)) 9 4
    ∷ refused (step 0 (send 1)) 8 9 ∷ refused (step 0 (receipt 1 1)) 16 7 ∷ refused (step 1 (send 0)) 8 9 ∷ refused (step 1 (send 0)) 8 9
    ∷ refused (step 1 (send 0)) 8 9 ∷ refused (step 1 checkpoint) 4 9 ∷ accepted (line 0) 8 (0 ∷ 0 ∷ []) table112 ∷ refused (line 1) 8 15
    ∷ refused (line 2) 8 15 ∷ refused (line 3) 8 15 ∷ refused (line 2) 8 15 ∷ refused (line 4294967295) 8 15
    ∷ accepted (failed 0) 16 (1 ∷ 1 ∷ 0 ∷ 0 ∷ []) table112 ∷ accepted (failed 1) 16 (0 ∷ 0 ∷ 3 ∷ 2 ∷ []) table112
    ∷ accepted (failed 2) 16 (1 ∷ 0 ∷ 2 ∷ 1 ∷ []) table112 ∷ accepted (failed 3) 16 (0 ∷ 0 ∷ 3 ∷ 2 ∷ []) table112 ∷ refused (failed 4) 16 11
    ∷ refused (failed 4294967295) 16 11 ∷ []) ∷ []

pub run2_agree : Agree run2
unfolding fresh_on step_on line_on failed_on resend_on layout decoded well_laid word put_word put_words failure_answer failure_line rounds round ones ones_in in_transit
run2_agree = refl

abbrev table113 : List ℕ
table113 = bytes (2 ∷ 3 ∷ 0 ∷ 0 ∷ 0 ∷ 0 ∷ 0 ∷ 0 ∷ 0 ∷ 0 ∷ 0 ∷ 0 ∷ 0 ∷ 0 ∷ 0 ∷ 0 ∷ 0 ∷ 0 ∷ 0 ∷ 0 ∷ 0 ∷ 0 ∷ 0 ∷ 0 ∷ 0 ∷ 0 ∷ 0 ∷ 0 ∷ 0 ∷ 0 ∷ 0 ∷ 0 ∷ [])

abbrev table114 : List ℕ
table114 = bytes (2 ∷ 3 ∷ 1 ∷ 0 ∷ 1 ∷ 3 ∷ 1 ∷ 1 ∷ 0 ∷ 0 ∷ 0 ∷ 0 ∷ 0 ∷ 0 ∷ 0 ∷ 0 ∷ 0 ∷ 0 ∷ 0 ∷ 0 ∷ 0 ∷ 0 ∷ 0 ∷ 0 ∷ 0 ∷ 0 ∷ 0 ∷ 0 ∷ 0 ∷ 0 ∷ 0 ∷ 0 ∷ [])

abbrev table115 : List ℕ
table115 = bytes (2 ∷ 3 ∷ 2 ∷ 0 ∷ 2 ∷ 3 ∷ 1 ∷ 1 ∷ 0 ∷ 3 ∷ 1 ∷ 2 ∷ 0 ∷ 0 ∷ 0 ∷ 0 ∷ 0 ∷ 0 ∷ 0 ∷ 0 ∷ 0 ∷ 0 ∷ 0 ∷ 0 ∷ 0 ∷ 0 ∷ 0 ∷ 0 ∷ 0 ∷ 0 ∷ 0 ∷ 0 ∷ [])

abbrev table116 : List ℕ
table116 = bytes (2 ∷ 3 ∷ 2 ∷ 0 ∷ 2 ∷ 3 ∷ 1 ∷ 1 ∷ 0 ∷ 3 ∷ 1 ∷ 2 ∷ 0 ∷ 0 ∷ 0 ∷ 0 ∷ 0 ∷ 1 ∷ 0 ∷ 0 ∷ 4 ∷ 0 ∷ 1 ∷ 0 ∷ 0 ∷ 0 ∷ 0 ∷ 0 ∷ 0 ∷ 0 ∷ 0 ∷ 0 ∷ [])

abbrev table117 : List ℕ
table117 = bytes (2 ∷ 3 ∷ 2 ∷ 0 ∷ 2 ∷ 3 ∷ 1 ∷ 1 ∷ 0 ∷ 3 ∷ 1 ∷ 2 ∷ 0 ∷ 0 ∷ 0 ∷ 0 ∷ 0 ∷ 2 ∷ 0 ∷ 0 ∷ 4 ∷ 0 ∷ 1 ∷ 0 ∷ 4 ∷ 0 ∷ 2 ∷ 0 ∷ 0 ∷ 0 ∷ 0 ∷ 0 ∷ [])

abbrev table118 : List ℕ
table118 = bytes (2 ∷ 3 ∷ 2 ∷ 0 ∷ 2 ∷ 3 ∷ 1 ∷ 1 ∷ 0 ∷ 3 ∷ 1 ∷ 2 ∷ 0 ∷ 0 ∷ 0 ∷ 0 ∷ 0 ∷ 3 ∷ 0 ∷ 1 ∷ 4 ∷ 0 ∷ 1 ∷ 0 ∷ 4 ∷ 0 ∷ 2 ∷ 0 ∷ 3 ∷ 0 ∷ 1 ∷ 0 ∷ [])

abbrev table119 : List ℕ
table119 = bytes (2 ∷ 3 ∷ 3 ∷ 0 ∷ 3 ∷ 3 ∷ 1 ∷ 1 ∷ 0 ∷ 3 ∷ 1 ∷ 2 ∷ 0 ∷ 3 ∷ 1 ∷ 3 ∷ 0 ∷ 3 ∷ 0 ∷ 1 ∷ 4 ∷ 0 ∷ 1 ∷ 0 ∷ 4 ∷ 0 ∷ 2 ∷ 0 ∷ 3 ∷ 0 ∷ 1 ∷ 0 ∷ [])

-- A run from fresh: n = 2, E = 3.
abbrev run3 : List Script
run3 = script (lent 128) (accepted (fresh 2 3) 0 [] table113 ∷ refused (step 256 (send 0)) 8 5 ∷ accepted (step 0 (send 1)) 8 (1 ∷ 0 ∷ []) table114
    ∷ accepted (step 0 (send 1)) 8 (2 ∷ 0 ∷ []) table115 ∷ accepted (step 1 (receipt 0 1)) 16 (0 ∷ 0 ∷ 1 ∷ 1 ∷ []) table116
    ∷ accepted (step 1 (receipt 0 2)) 16 (0 ∷ 0 ∷ 2 ∷ 2 ∷ []) table117 ∷ refused (step 1 (receipt 0 2)) 16 8
    ∷ accepted (step 1 (send 0)) 8 (1 ∷ 0 ∷ []) table118 ∷ accepted (step 0 (send 1)) 8 (3 ∷ 0 ∷ []) table119 ∷ refused (step 0 (send 1)) 8 9
    ∷ refused (step 0 (send 1)) 8 9 ∷ refused (step 0 (receipt 1 1)) 16 9 ∷ refused (step 1 checkpoint) 4 9 ∷ refused (step 0 (receipt 1 4)) 16 7
    ∷ refused (step 1 (receipt 0 1)) 16 8 ∷ accepted (line 0) 8 (0 ∷ 0 ∷ []) table119 ∷ refused (line 1) 8 15 ∷ refused (line 2) 8 15 ∷ refused (line 3) 8 15
    ∷ refused (line 6) 8 15 ∷ refused (line 4294967295) 8 15 ∷ accepted (failed 0) 16 (3 ∷ 3 ∷ 0 ∷ 0 ∷ []) table119
    ∷ accepted (failed 1) 16 (0 ∷ 0 ∷ 3 ∷ 2 ∷ []) table119 ∷ accepted (failed 2) 16 (3 ∷ 0 ∷ 2 ∷ 1 ∷ []) table119
    ∷ accepted (failed 3) 16 (0 ∷ 0 ∷ 3 ∷ 2 ∷ []) table119 ∷ refused (failed 4) 16 11 ∷ refused (failed 4294967295) 16 11 ∷ []) ∷ []

pub run3_agree : Agree run3
unfolding fresh_on step_on line_on failed_on resend_on layout decoded well_laid word put_word put_words failure_answer failure_line rounds round ones ones_in in_transit
run3_agree = refl

abbrev table120 : List ℕ
table120 = bytes (2 ∷ 4 ∷ 1 ∷ 0 ∷ 1 ∷ 3 ∷ 1 ∷ 1 ∷ 0 ∷ 0 ∷ 0 ∷ 0 ∷ 0 ∷ 0 ∷ 0 ∷ 0 ∷ 0 ∷ 0 ∷ 0 ∷ 0 ∷ 0 ∷ 0 ∷ 0 ∷ 0 ∷ 0 ∷ 0 ∷ 0 ∷ 0 ∷ 0 ∷ 0 ∷ 0 ∷ 0 ∷ 0 ∷ 0 ∷ 0
    ∷ 0 ∷ 0 ∷ 0 ∷ 0 ∷ 0 ∷ [])

abbrev table121 : List ℕ
table121 = bytes (2 ∷ 4 ∷ 1 ∷ 0 ∷ 1 ∷ 3 ∷ 1 ∷ 1 ∷ 0 ∷ 0 ∷ 0 ∷ 0 ∷ 0 ∷ 0 ∷ 0 ∷ 0 ∷ 0 ∷ 0 ∷ 0 ∷ 0 ∷ 0 ∷ 1 ∷ 0 ∷ 0 ∷ 4 ∷ 0 ∷ 1 ∷ 0 ∷ 0 ∷ 0 ∷ 0 ∷ 0 ∷ 0 ∷ 0 ∷ 0
    ∷ 0 ∷ 0 ∷ 0 ∷ 0 ∷ 0 ∷ [])

abbrev table122 : List ℕ
table122 = bytes (2 ∷ 4 ∷ 2 ∷ 0 ∷ 2 ∷ 3 ∷ 1 ∷ 1 ∷ 0 ∷ 3 ∷ 1 ∷ 2 ∷ 0 ∷ 0 ∷ 0 ∷ 0 ∷ 0 ∷ 0 ∷ 0 ∷ 0 ∷ 0 ∷ 1 ∷ 0 ∷ 0 ∷ 4 ∷ 0 ∷ 1 ∷ 0 ∷ 0 ∷ 0 ∷ 0 ∷ 0 ∷ 0 ∷ 0 ∷ 0
    ∷ 0 ∷ 0 ∷ 0 ∷ 0 ∷ 0 ∷ [])

abbrev table123 : List ℕ
table123 = bytes (2 ∷ 4 ∷ 3 ∷ 0 ∷ 3 ∷ 3 ∷ 1 ∷ 1 ∷ 0 ∷ 3 ∷ 1 ∷ 2 ∷ 0 ∷ 3 ∷ 1 ∷ 3 ∷ 0 ∷ 0 ∷ 0 ∷ 0 ∷ 0 ∷ 1 ∷ 0 ∷ 0 ∷ 4 ∷ 0 ∷ 1 ∷ 0 ∷ 0 ∷ 0 ∷ 0 ∷ 0 ∷ 0 ∷ 0 ∷ 0
    ∷ 0 ∷ 0 ∷ 0 ∷ 0 ∷ 0 ∷ [])

abbrev table124 : List ℕ
table124 = bytes (2 ∷ 4 ∷ 3 ∷ 0 ∷ 3 ∷ 3 ∷ 1 ∷ 1 ∷ 0 ∷ 3 ∷ 1 ∷ 2 ∷ 0 ∷ 3 ∷ 1 ∷ 3 ∷ 0 ∷ 0 ∷ 0 ∷ 0 ∷ 0 ∷ 2 ∷ 0 ∷ 0 ∷ 4 ∷ 0 ∷ 1 ∷ 0 ∷ 4 ∷ 0 ∷ 3 ∷ 0 ∷ 0 ∷ 0 ∷ 0
    ∷ 0 ∷ 0 ∷ 0 ∷ 0 ∷ 0 ∷ [])

abbrev table125 : List ℕ
table125 = bytes (2 ∷ 4 ∷ 4 ∷ 0 ∷ 4 ∷ 3 ∷ 1 ∷ 1 ∷ 0 ∷ 3 ∷ 1 ∷ 2 ∷ 0 ∷ 3 ∷ 1 ∷ 3 ∷ 0 ∷ 3 ∷ 1 ∷ 4 ∷ 0 ∷ 2 ∷ 0 ∷ 0 ∷ 4 ∷ 0 ∷ 1 ∷ 0 ∷ 4 ∷ 0 ∷ 3 ∷ 0 ∷ 0 ∷ 0 ∷ 0
    ∷ 0 ∷ 0 ∷ 0 ∷ 0 ∷ 0 ∷ [])

abbrev table126 : List ℕ
table126 = bytes (2 ∷ 4 ∷ 4 ∷ 0 ∷ 4 ∷ 3 ∷ 1 ∷ 1 ∷ 0 ∷ 3 ∷ 1 ∷ 2 ∷ 0 ∷ 3 ∷ 1 ∷ 3 ∷ 0 ∷ 3 ∷ 1 ∷ 4 ∷ 0 ∷ 3 ∷ 0 ∷ 0 ∷ 4 ∷ 0 ∷ 1 ∷ 0 ∷ 4 ∷ 0 ∷ 3 ∷ 0 ∷ 4 ∷ 0 ∷ 2
    ∷ 0 ∷ 0 ∷ 0 ∷ 0 ∷ 0 ∷ [])

abbrev table127 : List ℕ
table127 = bytes (2 ∷ 4 ∷ 4 ∷ 0 ∷ 4 ∷ 3 ∷ 1 ∷ 1 ∷ 0 ∷ 3 ∷ 1 ∷ 2 ∷ 0 ∷ 3 ∷ 1 ∷ 3 ∷ 0 ∷ 3 ∷ 1 ∷ 4 ∷ 0 ∷ 4 ∷ 0 ∷ 0 ∷ 4 ∷ 0 ∷ 1 ∷ 0 ∷ 4 ∷ 0 ∷ 3 ∷ 0 ∷ 4 ∷ 0 ∷ 2
    ∷ 0 ∷ 4 ∷ 0 ∷ 4 ∷ 0 ∷ [])

-- A run from fresh: n = 2, E = 4.
abbrev run4 : List Script
run4 = script (lent 160) (accepted (fresh 2 4) 0 [] table14 ∷ accepted (step 0 (send 1)) 8 (1 ∷ 0 ∷ []) table120 ∷ refused (step 1 (receipt 0 4)) 16 7
    ∷ refused (step 1 (receipt 0 3)) 16 7 ∷ accepted (step 1 (receipt 0 1)) 16 (0 ∷ 0 ∷ 1 ∷ 1 ∷ []) table121
    ∷ accepted (step 0 (send 1)) 8 (2 ∷ 0 ∷ []) table122 ∷ refused (step 1 (send 1)) 8 6 ∷ accepted (step 0 (send 1)) 8 (3 ∷ 0 ∷ []) table123
    ∷ accepted (step 1 (receipt 0 3)) 16 (0 ∷ 0 ∷ 3 ∷ 2 ∷ []) table124 ∷ accepted (step 0 (send 1)) 8 (4 ∷ 0 ∷ []) table125 ∷ refused (step 0 checkpoint) 4 9
    ∷ accepted (step 1 (receipt 0 2)) 16 (0 ∷ 0 ∷ 2 ∷ 3 ∷ []) table126 ∷ refused (step 0 (send 1)) 8 9
    ∷ accepted (step 1 (receipt 0 4)) 16 (0 ∷ 0 ∷ 4 ∷ 4 ∷ []) table127 ∷ refused (step 0 (receipt 1 0)) 16 7 ∷ refused (step 1 (receipt 0 4)) 16 8
    ∷ refused (step 1 (send 0)) 8 9 ∷ accepted (line 0) 8 (0 ∷ 0 ∷ []) table127 ∷ refused (line 1) 8 15 ∷ refused (line 2) 8 15 ∷ refused (line 3) 8 15
    ∷ refused (line 8) 8 15 ∷ refused (line 4294967295) 8 15 ∷ accepted (failed 0) 16 (4 ∷ 4 ∷ 0 ∷ 0 ∷ []) table127
    ∷ accepted (failed 1) 16 (0 ∷ 0 ∷ 3 ∷ 2 ∷ []) table127 ∷ accepted (failed 2) 16 (4 ∷ 0 ∷ 2 ∷ 1 ∷ []) table127
    ∷ accepted (failed 3) 16 (0 ∷ 0 ∷ 3 ∷ 2 ∷ []) table127 ∷ refused (failed 4) 16 11 ∷ refused (failed 4294967295) 16 11 ∷ []) ∷ []

pub run4_agree : Agree run4
unfolding fresh_on step_on line_on failed_on resend_on layout decoded well_laid word put_word put_words failure_answer failure_line rounds round ones ones_in in_transit
run4_agree = refl

abbrev table128 : List ℕ
table128 = bytes (2 ∷ 6 ∷ 0 ∷ 0 ∷ 0 ∷ 0 ∷ 0 ∷ 0 ∷ 0 ∷ 0 ∷ 0 ∷ 0 ∷ 0 ∷ 0 ∷ 0 ∷ 0 ∷ 0 ∷ 0 ∷ 0 ∷ 0 ∷ 0 ∷ 0 ∷ 0 ∷ 0 ∷ 0 ∷ 0 ∷ 0 ∷ 0 ∷ 0 ∷ 0 ∷ 0 ∷ 0 ∷ 0 ∷ 0 ∷ 0
    ∷ 0 ∷ 0 ∷ 0 ∷ 0 ∷ 0 ∷ 0 ∷ 0 ∷ 0 ∷ 0 ∷ 0 ∷ 0 ∷ 0 ∷ 0 ∷ 0 ∷ 0 ∷ 0 ∷ 0 ∷ 0 ∷ 0 ∷ 0 ∷ 0 ∷ [])

abbrev table129 : List ℕ
table129 = bytes (2 ∷ 6 ∷ 0 ∷ 0 ∷ 0 ∷ 0 ∷ 0 ∷ 0 ∷ 0 ∷ 0 ∷ 0 ∷ 0 ∷ 0 ∷ 0 ∷ 0 ∷ 0 ∷ 0 ∷ 0 ∷ 0 ∷ 0 ∷ 0 ∷ 0 ∷ 0 ∷ 0 ∷ 0 ∷ 0 ∷ 0 ∷ 0 ∷ 0 ∷ 1 ∷ 1 ∷ 0 ∷ 1 ∷ 1 ∷ 0
    ∷ 0 ∷ 0 ∷ 0 ∷ 0 ∷ 0 ∷ 0 ∷ 0 ∷ 0 ∷ 0 ∷ 0 ∷ 0 ∷ 0 ∷ 0 ∷ 0 ∷ 0 ∷ 0 ∷ 0 ∷ 0 ∷ 0 ∷ 0 ∷ 0 ∷ [])

abbrev table130 : List ℕ
table130 = bytes (2 ∷ 6 ∷ 1 ∷ 1 ∷ 0 ∷ 1 ∷ 1 ∷ 0 ∷ 0 ∷ 0 ∷ 0 ∷ 0 ∷ 0 ∷ 0 ∷ 0 ∷ 0 ∷ 0 ∷ 0 ∷ 0 ∷ 0 ∷ 0 ∷ 0 ∷ 0 ∷ 0 ∷ 0 ∷ 0 ∷ 0 ∷ 0 ∷ 0 ∷ 1 ∷ 1 ∷ 0 ∷ 1 ∷ 1 ∷ 0
    ∷ 0 ∷ 0 ∷ 0 ∷ 0 ∷ 0 ∷ 0 ∷ 0 ∷ 0 ∷ 0 ∷ 0 ∷ 0 ∷ 0 ∷ 0 ∷ 0 ∷ 0 ∷ 0 ∷ 0 ∷ 0 ∷ 0 ∷ 0 ∷ 0 ∷ [])

abbrev table131 : List ℕ
table131 = bytes (2 ∷ 6 ∷ 2 ∷ 1 ∷ 1 ∷ 1 ∷ 1 ∷ 0 ∷ 0 ∷ 3 ∷ 1 ∷ 1 ∷ 1 ∷ 0 ∷ 0 ∷ 0 ∷ 0 ∷ 0 ∷ 0 ∷ 0 ∷ 0 ∷ 0 ∷ 0 ∷ 0 ∷ 0 ∷ 0 ∷ 0 ∷ 0 ∷ 0 ∷ 1 ∷ 1 ∷ 0 ∷ 1 ∷ 1 ∷ 0
    ∷ 0 ∷ 0 ∷ 0 ∷ 0 ∷ 0 ∷ 0 ∷ 0 ∷ 0 ∷ 0 ∷ 0 ∷ 0 ∷ 0 ∷ 0 ∷ 0 ∷ 0 ∷ 0 ∷ 0 ∷ 0 ∷ 0 ∷ 0 ∷ 0 ∷ [])

abbrev table132 : List ℕ
table132 = bytes (2 ∷ 6 ∷ 3 ∷ 1 ∷ 2 ∷ 1 ∷ 1 ∷ 0 ∷ 0 ∷ 3 ∷ 1 ∷ 1 ∷ 1 ∷ 3 ∷ 1 ∷ 2 ∷ 1 ∷ 0 ∷ 0 ∷ 0 ∷ 0 ∷ 0 ∷ 0 ∷ 0 ∷ 0 ∷ 0 ∷ 0 ∷ 0 ∷ 0 ∷ 1 ∷ 1 ∷ 0 ∷ 1 ∷ 1 ∷ 0
    ∷ 0 ∷ 0 ∷ 0 ∷ 0 ∷ 0 ∷ 0 ∷ 0 ∷ 0 ∷ 0 ∷ 0 ∷ 0 ∷ 0 ∷ 0 ∷ 0 ∷ 0 ∷ 0 ∷ 0 ∷ 0 ∷ 0 ∷ 0 ∷ 0 ∷ [])

abbrev table133 : List ℕ
table133 = bytes (2 ∷ 6 ∷ 3 ∷ 1 ∷ 2 ∷ 1 ∷ 1 ∷ 0 ∷ 0 ∷ 3 ∷ 1 ∷ 1 ∷ 1 ∷ 3 ∷ 1 ∷ 2 ∷ 1 ∷ 0 ∷ 0 ∷ 0 ∷ 0 ∷ 0 ∷ 0 ∷ 0 ∷ 0 ∷ 0 ∷ 0 ∷ 0 ∷ 0 ∷ 2 ∷ 2 ∷ 0 ∷ 1 ∷ 1 ∷ 0
    ∷ 0 ∷ 1 ∷ 2 ∷ 0 ∷ 0 ∷ 0 ∷ 0 ∷ 0 ∷ 0 ∷ 0 ∷ 0 ∷ 0 ∷ 0 ∷ 0 ∷ 0 ∷ 0 ∷ 0 ∷ 0 ∷ 0 ∷ 0 ∷ 0 ∷ [])

abbrev table134 : List ℕ
table134 = bytes (2 ∷ 6 ∷ 3 ∷ 1 ∷ 2 ∷ 1 ∷ 1 ∷ 0 ∷ 0 ∷ 3 ∷ 1 ∷ 1 ∷ 1 ∷ 3 ∷ 1 ∷ 2 ∷ 1 ∷ 0 ∷ 0 ∷ 0 ∷ 0 ∷ 0 ∷ 0 ∷ 0 ∷ 0 ∷ 0 ∷ 0 ∷ 0 ∷ 0 ∷ 3 ∷ 2 ∷ 0 ∷ 1 ∷ 1 ∷ 0
    ∷ 0 ∷ 1 ∷ 2 ∷ 0 ∷ 0 ∷ 4 ∷ 0 ∷ 1 ∷ 1 ∷ 0 ∷ 0 ∷ 0 ∷ 0 ∷ 0 ∷ 0 ∷ 0 ∷ 0 ∷ 0 ∷ 0 ∷ 0 ∷ 0 ∷ [])

abbrev table135 : List ℕ
table135 = bytes (2 ∷ 6 ∷ 4 ∷ 2 ∷ 2 ∷ 1 ∷ 1 ∷ 0 ∷ 0 ∷ 3 ∷ 1 ∷ 1 ∷ 1 ∷ 3 ∷ 1 ∷ 2 ∷ 1 ∷ 1 ∷ 2 ∷ 0 ∷ 0 ∷ 0 ∷ 0 ∷ 0 ∷ 0 ∷ 0 ∷ 0 ∷ 0 ∷ 0 ∷ 3 ∷ 2 ∷ 0 ∷ 1 ∷ 1 ∷ 0
    ∷ 0 ∷ 1 ∷ 2 ∷ 0 ∷ 0 ∷ 4 ∷ 0 ∷ 1 ∷ 1 ∷ 0 ∷ 0 ∷ 0 ∷ 0 ∷ 0 ∷ 0 ∷ 0 ∷ 0 ∷ 0 ∷ 0 ∷ 0 ∷ 0 ∷ [])

abbrev table136 : List ℕ
table136 = bytes (2 ∷ 6 ∷ 4 ∷ 2 ∷ 2 ∷ 1 ∷ 1 ∷ 0 ∷ 0 ∷ 3 ∷ 1 ∷ 1 ∷ 1 ∷ 3 ∷ 1 ∷ 2 ∷ 1 ∷ 1 ∷ 2 ∷ 0 ∷ 0 ∷ 0 ∷ 0 ∷ 0 ∷ 0 ∷ 0 ∷ 0 ∷ 0 ∷ 0 ∷ 4 ∷ 2 ∷ 0 ∷ 1 ∷ 1 ∷ 0
    ∷ 0 ∷ 1 ∷ 2 ∷ 0 ∷ 0 ∷ 4 ∷ 0 ∷ 1 ∷ 1 ∷ 4 ∷ 0 ∷ 2 ∷ 1 ∷ 0 ∷ 0 ∷ 0 ∷ 0 ∷ 0 ∷ 0 ∷ 0 ∷ 0 ∷ [])

abbrev table137 : List ℕ
table137 = bytes (2 ∷ 6 ∷ 5 ∷ 2 ∷ 3 ∷ 1 ∷ 1 ∷ 0 ∷ 0 ∷ 3 ∷ 1 ∷ 1 ∷ 1 ∷ 3 ∷ 1 ∷ 2 ∷ 1 ∷ 1 ∷ 2 ∷ 0 ∷ 0 ∷ 3 ∷ 1 ∷ 3 ∷ 2 ∷ 0 ∷ 0 ∷ 0 ∷ 0 ∷ 4 ∷ 2 ∷ 0 ∷ 1 ∷ 1 ∷ 0
    ∷ 0 ∷ 1 ∷ 2 ∷ 0 ∷ 0 ∷ 4 ∷ 0 ∷ 1 ∷ 1 ∷ 4 ∷ 0 ∷ 2 ∷ 1 ∷ 0 ∷ 0 ∷ 0 ∷ 0 ∷ 0 ∷ 0 ∷ 0 ∷ 0 ∷ [])

abbrev table138 : List ℕ
table138 = bytes (2 ∷ 6 ∷ 5 ∷ 2 ∷ 3 ∷ 1 ∷ 1 ∷ 0 ∷ 0 ∷ 3 ∷ 1 ∷ 1 ∷ 1 ∷ 3 ∷ 1 ∷ 2 ∷ 1 ∷ 1 ∷ 2 ∷ 0 ∷ 0 ∷ 3 ∷ 1 ∷ 3 ∷ 2 ∷ 0 ∷ 0 ∷ 0 ∷ 0 ∷ 5 ∷ 2 ∷ 0 ∷ 1 ∷ 1 ∷ 0
    ∷ 0 ∷ 1 ∷ 2 ∷ 0 ∷ 0 ∷ 4 ∷ 0 ∷ 1 ∷ 1 ∷ 4 ∷ 0 ∷ 2 ∷ 1 ∷ 4 ∷ 0 ∷ 3 ∷ 2 ∷ 0 ∷ 0 ∷ 0 ∷ 0 ∷ [])

abbrev table139 : List ℕ
table139 = bytes (2 ∷ 6 ∷ 5 ∷ 2 ∷ 3 ∷ 1 ∷ 1 ∷ 0 ∷ 0 ∷ 3 ∷ 1 ∷ 1 ∷ 1 ∷ 3 ∷ 1 ∷ 2 ∷ 1 ∷ 1 ∷ 2 ∷ 0 ∷ 0 ∷ 3 ∷ 1 ∷ 3 ∷ 2 ∷ 0 ∷ 0 ∷ 0 ∷ 0 ∷ 6 ∷ 2 ∷ 1 ∷ 1 ∷ 1 ∷ 0
    ∷ 0 ∷ 1 ∷ 2 ∷ 0 ∷ 0 ∷ 4 ∷ 0 ∷ 1 ∷ 1 ∷ 4 ∷ 0 ∷ 2 ∷ 1 ∷ 4 ∷ 0 ∷ 3 ∷ 2 ∷ 3 ∷ 0 ∷ 1 ∷ 2 ∷ [])

abbrev table140 : List ℕ
table140 = bytes (2 ∷ 6 ∷ 6 ∷ 2 ∷ 3 ∷ 1 ∷ 1 ∷ 0 ∷ 0 ∷ 3 ∷ 1 ∷ 1 ∷ 1 ∷ 3 ∷ 1 ∷ 2 ∷ 1 ∷ 1 ∷ 2 ∷ 0 ∷ 0 ∷ 3 ∷ 1 ∷ 3 ∷ 2 ∷ 4 ∷ 1 ∷ 1 ∷ 2 ∷ 6 ∷ 2 ∷ 1 ∷ 1 ∷ 1 ∷ 0
    ∷ 0 ∷ 1 ∷ 2 ∷ 0 ∷ 0 ∷ 4 ∷ 0 ∷ 1 ∷ 1 ∷ 4 ∷ 0 ∷ 2 ∷ 1 ∷ 4 ∷ 0 ∷ 3 ∷ 2 ∷ 3 ∷ 0 ∷ 1 ∷ 2 ∷ [])

-- A run from fresh: n = 2, E = 6.
abbrev run5 : List Script
run5 = script (lent 224) (accepted (fresh 2 6) 0 [] table128 ∷ accepted (step 1 checkpoint) 4 (1 ∷ []) table129
    ∷ accepted (step 0 checkpoint) 4 (1 ∷ []) table130 ∷ refused (step 1706265656 (send 0)) 8 5 ∷ accepted (step 0 (send 1)) 8 (1 ∷ 1 ∷ []) table131
    ∷ accepted (step 0 (send 1)) 8 (2 ∷ 1 ∷ []) table132 ∷ refused (step 0 (receipt 1 4)) 16 7 ∷ accepted (step 1 checkpoint) 4 (2 ∷ []) table133
    ∷ accepted (step 1 (receipt 0 1)) 16 (1 ∷ 0 ∷ 2 ∷ 3 ∷ []) table134 ∷ accepted (step 0 checkpoint) 4 (2 ∷ []) table135
    ∷ accepted (step 1 (receipt 0 2)) 16 (1 ∷ 0 ∷ 3 ∷ 4 ∷ []) table136 ∷ refused (step 0 (receipt 1 0)) 16 7
    ∷ accepted (step 0 (send 1)) 8 (3 ∷ 2 ∷ []) table137 ∷ refused (step 0 (receipt 1 1)) 16 7
    ∷ accepted (step 1 (receipt 0 3)) 16 (2 ∷ 0 ∷ 5 ∷ 5 ∷ []) table138 ∷ refused (step 1 (receipt 0 3)) 16 8
    ∷ accepted (step 1 (send 0)) 8 (1 ∷ 2 ∷ []) table139 ∷ accepted (step 0 (receipt 1 1)) 16 (2 ∷ 0 ∷ 6 ∷ 6 ∷ []) table140 ∷ refused (step 0 (send 1)) 8 9
    ∷ refused (step 1 (receipt 1 2)) 16 6 ∷ refused (step 1 (send 0)) 1 4 ∷ accepted (line 0) 8 (0 ∷ 0 ∷ []) table140
    ∷ accepted (line 1) 8 (1 ∷ 1 ∷ []) table140 ∷ accepted (line 2) 8 (4 ∷ 2 ∷ []) table140 ∷ refused (line 3) 8 15 ∷ refused (line 12) 8 15
    ∷ refused (line 4294967295) 8 15 ∷ accepted (failed 0) 16 (6 ∷ 6 ∷ 0 ∷ 0 ∷ []) table140 ∷ accepted (failed 1) 16 (4 ∷ 2 ∷ 3 ∷ 2 ∷ []) table140
    ∷ accepted (failed 2) 16 (4 ∷ 2 ∷ 3 ∷ 2 ∷ []) table140 ∷ accepted (failed 3) 16 (4 ∷ 2 ∷ 3 ∷ 2 ∷ []) table140 ∷ refused (failed 4) 16 11
    ∷ refused (failed 4294967295) 16 11 ∷ []) ∷ []

pub run5_agree : Agree run5
unfolding fresh_on step_on line_on failed_on resend_on layout decoded well_laid word put_word put_words failure_answer failure_line rounds round ones ones_in in_transit
run5_agree = refl

abbrev table141 : List ℕ
table141 = bytes (3 ∷ 2 ∷ 0 ∷ 0 ∷ 0 ∷ 0 ∷ 0 ∷ 0 ∷ 0 ∷ 0 ∷ 0 ∷ 0 ∷ 0 ∷ 0 ∷ 0 ∷ 0 ∷ 0 ∷ 0 ∷ 0 ∷ 0 ∷ 0 ∷ 0 ∷ 0 ∷ 0 ∷ 0 ∷ 0 ∷ 0 ∷ 0 ∷ 0 ∷ 0 ∷ 0 ∷ 0 ∷ 0 ∷ 0 ∷ 0
    ∷ [])

abbrev table142 : List ℕ
table142 = bytes (3 ∷ 2 ∷ 0 ∷ 0 ∷ 0 ∷ 0 ∷ 0 ∷ 0 ∷ 0 ∷ 0 ∷ 0 ∷ 0 ∷ 0 ∷ 0 ∷ 0 ∷ 0 ∷ 0 ∷ 0 ∷ 0 ∷ 0 ∷ 0 ∷ 0 ∷ 0 ∷ 0 ∷ 1 ∷ 1 ∷ 0 ∷ 1 ∷ 1 ∷ 0 ∷ 0 ∷ 0 ∷ 0 ∷ 0 ∷ 0
    ∷ [])

abbrev table143 : List ℕ
table143 = bytes (3 ∷ 2 ∷ 1 ∷ 0 ∷ 1 ∷ 3 ∷ 2 ∷ 1 ∷ 0 ∷ 0 ∷ 0 ∷ 0 ∷ 0 ∷ 0 ∷ 0 ∷ 0 ∷ 0 ∷ 0 ∷ 0 ∷ 0 ∷ 0 ∷ 0 ∷ 0 ∷ 0 ∷ 1 ∷ 1 ∷ 0 ∷ 1 ∷ 1 ∷ 0 ∷ 0 ∷ 0 ∷ 0 ∷ 0 ∷ 0
    ∷ [])

abbrev table144 : List ℕ
table144 = bytes (3 ∷ 2 ∷ 1 ∷ 0 ∷ 1 ∷ 3 ∷ 2 ∷ 1 ∷ 0 ∷ 0 ∷ 0 ∷ 0 ∷ 0 ∷ 0 ∷ 0 ∷ 0 ∷ 0 ∷ 0 ∷ 0 ∷ 0 ∷ 0 ∷ 0 ∷ 0 ∷ 0 ∷ 2 ∷ 1 ∷ 1 ∷ 1 ∷ 1 ∷ 0 ∷ 0 ∷ 3 ∷ 0 ∷ 1 ∷ 1
    ∷ [])

abbrev table145 : List ℕ
table145 = bytes (3 ∷ 2 ∷ 1 ∷ 0 ∷ 1 ∷ 3 ∷ 2 ∷ 1 ∷ 0 ∷ 0 ∷ 0 ∷ 0 ∷ 0 ∷ 1 ∷ 0 ∷ 1 ∷ 3 ∷ 2 ∷ 1 ∷ 0 ∷ 0 ∷ 0 ∷ 0 ∷ 0 ∷ 2 ∷ 1 ∷ 1 ∷ 1 ∷ 1 ∷ 0 ∷ 0 ∷ 3 ∷ 0 ∷ 1 ∷ 1
    ∷ [])

abbrev table146 : List ℕ
table146 = bytes (3 ∷ 2 ∷ 2 ∷ 0 ∷ 2 ∷ 3 ∷ 2 ∷ 1 ∷ 0 ∷ 3 ∷ 2 ∷ 2 ∷ 0 ∷ 1 ∷ 0 ∷ 1 ∷ 3 ∷ 2 ∷ 1 ∷ 0 ∷ 0 ∷ 0 ∷ 0 ∷ 0 ∷ 2 ∷ 1 ∷ 1 ∷ 1 ∷ 1 ∷ 0 ∷ 0 ∷ 3 ∷ 0 ∷ 1 ∷ 1
    ∷ [])

abbrev table147 : List ℕ
table147 = bytes (3 ∷ 2 ∷ 2 ∷ 0 ∷ 2 ∷ 3 ∷ 2 ∷ 1 ∷ 0 ∷ 3 ∷ 2 ∷ 2 ∷ 0 ∷ 2 ∷ 0 ∷ 2 ∷ 3 ∷ 2 ∷ 1 ∷ 0 ∷ 3 ∷ 0 ∷ 2 ∷ 0 ∷ 2 ∷ 1 ∷ 1 ∷ 1 ∷ 1 ∷ 0 ∷ 0 ∷ 3 ∷ 0 ∷ 1 ∷ 1
    ∷ [])

-- A run from fresh: n = 3, E = 2.
abbrev run6 : List Script
run6 = script (lent 140) (accepted (fresh 3 2) 0 [] table141 ∷ refused (step 2 (receipt 1 2)) 16 7 ∷ refused (step 2 (receipt 0 2)) 16 7
    ∷ accepted (step 2 checkpoint) 4 (1 ∷ []) table142 ∷ accepted (step 0 (send 2)) 8 (1 ∷ 0 ∷ []) table143 ∷ refused (step 1 (receipt 0 1)) 17 4
    ∷ accepted (step 2 (send 0)) 8 (1 ∷ 1 ∷ []) table144 ∷ refused (step 2 (receipt 0 1)) 16 9 ∷ refused (step 0 (receipt 2 1)) 16 9
    ∷ accepted (step 1 (send 2)) 8 (1 ∷ 0 ∷ []) table145 ∷ refused (step 2 (receipt 1 1)) 16 9 ∷ refused (step 0 (receipt 2 1)) 16 9
    ∷ accepted (step 0 (send 2)) 8 (2 ∷ 0 ∷ []) table146 ∷ accepted (step 1 (send 0)) 8 (2 ∷ 0 ∷ []) table147 ∷ refused (step 0 (receipt 1 2)) 16 9
    ∷ refused (step 0 (receipt 1 2)) 16 9 ∷ refused (step 2 (send 0)) 8 9 ∷ accepted (line 0) 12 (0 ∷ 0 ∷ 0 ∷ []) table147 ∷ refused (line 1) 12 15
    ∷ refused (line 2) 12 15 ∷ refused (line 3) 12 15 ∷ refused (line 6) 12 15 ∷ refused (line 4294967295) 12 15
    ∷ accepted (failed 0) 20 (2 ∷ 2 ∷ 2 ∷ 0 ∷ 0 ∷ []) table147 ∷ accepted (failed 1) 20 (0 ∷ 2 ∷ 2 ∷ 1 ∷ 1 ∷ []) table147
    ∷ accepted (failed 2) 20 (2 ∷ 0 ∷ 2 ∷ 2 ∷ 1 ∷ []) table147 ∷ accepted (failed 3) 20 (0 ∷ 0 ∷ 2 ∷ 3 ∷ 2 ∷ []) table147
    ∷ accepted (failed 4) 20 (2 ∷ 2 ∷ 1 ∷ 4 ∷ 1 ∷ []) table147 ∷ accepted (failed 5) 20 (0 ∷ 2 ∷ 1 ∷ 5 ∷ 2 ∷ []) table147
    ∷ accepted (failed 6) 20 (2 ∷ 0 ∷ 1 ∷ 6 ∷ 2 ∷ []) table147 ∷ accepted (failed 7) 20 (0 ∷ 0 ∷ 1 ∷ 7 ∷ 3 ∷ []) table147 ∷ refused (failed 8) 20 11
    ∷ refused (failed 4294967295) 20 11 ∷ []) ∷ []

pub run6_agree : Agree run6
unfolding fresh_on step_on line_on failed_on resend_on layout decoded well_laid word put_word put_words failure_answer failure_line rounds round ones ones_in in_transit
run6_agree = refl

abbrev table148 : List ℕ
table148 = bytes (3 ∷ 3 ∷ 0 ∷ 0 ∷ 0 ∷ 0 ∷ 0 ∷ 0 ∷ 0 ∷ 0 ∷ 0 ∷ 0 ∷ 0 ∷ 0 ∷ 0 ∷ 0 ∷ 0 ∷ 0 ∷ 0 ∷ 0 ∷ 0 ∷ 0 ∷ 0 ∷ 0 ∷ 0 ∷ 0 ∷ 0 ∷ 0 ∷ 0 ∷ 0 ∷ 0 ∷ 0 ∷ 0 ∷ 0 ∷ 0
    ∷ 0 ∷ 0 ∷ 0 ∷ 0 ∷ 0 ∷ 0 ∷ 0 ∷ 0 ∷ 0 ∷ 0 ∷ 0 ∷ 0 ∷ [])

abbrev table149 : List ℕ
table149 = bytes (3 ∷ 3 ∷ 0 ∷ 0 ∷ 0 ∷ 0 ∷ 0 ∷ 0 ∷ 0 ∷ 0 ∷ 0 ∷ 0 ∷ 0 ∷ 0 ∷ 0 ∷ 0 ∷ 0 ∷ 0 ∷ 0 ∷ 0 ∷ 0 ∷ 0 ∷ 0 ∷ 0 ∷ 0 ∷ 0 ∷ 0 ∷ 0 ∷ 0 ∷ 0 ∷ 0 ∷ 0 ∷ 1 ∷ 0 ∷ 1
    ∷ 3 ∷ 1 ∷ 1 ∷ 0 ∷ 0 ∷ 0 ∷ 0 ∷ 0 ∷ 0 ∷ 0 ∷ 0 ∷ 0 ∷ [])

abbrev table150 : List ℕ
table150 = bytes (3 ∷ 3 ∷ 0 ∷ 0 ∷ 0 ∷ 0 ∷ 0 ∷ 0 ∷ 0 ∷ 0 ∷ 0 ∷ 0 ∷ 0 ∷ 0 ∷ 0 ∷ 0 ∷ 0 ∷ 1 ∷ 0 ∷ 0 ∷ 4 ∷ 2 ∷ 1 ∷ 0 ∷ 0 ∷ 0 ∷ 0 ∷ 0 ∷ 0 ∷ 0 ∷ 0 ∷ 0 ∷ 1 ∷ 0 ∷ 1
    ∷ 3 ∷ 1 ∷ 1 ∷ 0 ∷ 0 ∷ 0 ∷ 0 ∷ 0 ∷ 0 ∷ 0 ∷ 0 ∷ 0 ∷ [])

abbrev table151 : List ℕ
table151 = bytes (3 ∷ 3 ∷ 0 ∷ 0 ∷ 0 ∷ 0 ∷ 0 ∷ 0 ∷ 0 ∷ 0 ∷ 0 ∷ 0 ∷ 0 ∷ 0 ∷ 0 ∷ 0 ∷ 0 ∷ 1 ∷ 0 ∷ 0 ∷ 4 ∷ 2 ∷ 1 ∷ 0 ∷ 0 ∷ 0 ∷ 0 ∷ 0 ∷ 0 ∷ 0 ∷ 0 ∷ 0 ∷ 2 ∷ 0 ∷ 2
    ∷ 3 ∷ 1 ∷ 1 ∷ 0 ∷ 3 ∷ 1 ∷ 2 ∷ 0 ∷ 0 ∷ 0 ∷ 0 ∷ 0 ∷ [])

abbrev table152 : List ℕ
table152 = bytes (3 ∷ 3 ∷ 0 ∷ 0 ∷ 0 ∷ 0 ∷ 0 ∷ 0 ∷ 0 ∷ 0 ∷ 0 ∷ 0 ∷ 0 ∷ 0 ∷ 0 ∷ 0 ∷ 0 ∷ 2 ∷ 0 ∷ 0 ∷ 4 ∷ 2 ∷ 1 ∷ 0 ∷ 4 ∷ 2 ∷ 2 ∷ 0 ∷ 0 ∷ 0 ∷ 0 ∷ 0 ∷ 2 ∷ 0 ∷ 2
    ∷ 3 ∷ 1 ∷ 1 ∷ 0 ∷ 3 ∷ 1 ∷ 2 ∷ 0 ∷ 0 ∷ 0 ∷ 0 ∷ 0 ∷ [])

abbrev table153 : List ℕ
table153 = bytes (3 ∷ 3 ∷ 0 ∷ 0 ∷ 0 ∷ 0 ∷ 0 ∷ 0 ∷ 0 ∷ 0 ∷ 0 ∷ 0 ∷ 0 ∷ 0 ∷ 0 ∷ 0 ∷ 0 ∷ 2 ∷ 0 ∷ 0 ∷ 4 ∷ 2 ∷ 1 ∷ 0 ∷ 4 ∷ 2 ∷ 2 ∷ 0 ∷ 0 ∷ 0 ∷ 0 ∷ 0 ∷ 3 ∷ 1 ∷ 2
    ∷ 3 ∷ 1 ∷ 1 ∷ 0 ∷ 3 ∷ 1 ∷ 2 ∷ 0 ∷ 1 ∷ 1 ∷ 0 ∷ 0 ∷ [])

abbrev table154 : List ℕ
table154 = bytes (3 ∷ 3 ∷ 1 ∷ 0 ∷ 1 ∷ 3 ∷ 1 ∷ 1 ∷ 0 ∷ 0 ∷ 0 ∷ 0 ∷ 0 ∷ 0 ∷ 0 ∷ 0 ∷ 0 ∷ 2 ∷ 0 ∷ 0 ∷ 4 ∷ 2 ∷ 1 ∷ 0 ∷ 4 ∷ 2 ∷ 2 ∷ 0 ∷ 0 ∷ 0 ∷ 0 ∷ 0 ∷ 3 ∷ 1 ∷ 2
    ∷ 3 ∷ 1 ∷ 1 ∷ 0 ∷ 3 ∷ 1 ∷ 2 ∷ 0 ∷ 1 ∷ 1 ∷ 0 ∷ 0 ∷ [])

abbrev table155 : List ℕ
table155 = bytes (3 ∷ 3 ∷ 1 ∷ 0 ∷ 1 ∷ 3 ∷ 1 ∷ 1 ∷ 0 ∷ 0 ∷ 0 ∷ 0 ∷ 0 ∷ 0 ∷ 0 ∷ 0 ∷ 0 ∷ 3 ∷ 1 ∷ 0 ∷ 4 ∷ 2 ∷ 1 ∷ 0 ∷ 4 ∷ 2 ∷ 2 ∷ 0 ∷ 1 ∷ 1 ∷ 0 ∷ 0 ∷ 3 ∷ 1 ∷ 2
    ∷ 3 ∷ 1 ∷ 1 ∷ 0 ∷ 3 ∷ 1 ∷ 2 ∷ 0 ∷ 1 ∷ 1 ∷ 0 ∷ 0 ∷ [])

-- A run from fresh: n = 3, E = 3.
abbrev run7 : List Script
run7 = script (lent 188) (accepted (fresh 3 3) 0 [] table148 ∷ accepted (step 2 (send 1)) 8 (1 ∷ 0 ∷ []) table149
    ∷ accepted (step 1 (receipt 2 1)) 16 (0 ∷ 0 ∷ 1 ∷ 1 ∷ []) table150 ∷ accepted (step 2 (send 1)) 8 (2 ∷ 0 ∷ []) table151
    ∷ accepted (step 1 (receipt 2 2)) 16 (0 ∷ 0 ∷ 2 ∷ 2 ∷ []) table152 ∷ accepted (step 2 checkpoint) 4 (1 ∷ []) table153
    ∷ refused (step 1 (receipt 2 2)) 16 8 ∷ refused (step 1 (receipt 2 2)) 16 8 ∷ refused (step 1 (receipt 2 2)) 16 8 ∷ refused (step 1 (receipt 2 2)) 16 8
    ∷ accepted (step 0 (send 1)) 8 (1 ∷ 0 ∷ []) table154 ∷ accepted (step 1 checkpoint) 4 (1 ∷ []) table155 ∷ refused (step 1 (send 2)) 8 9
    ∷ refused (step 1 (receipt 0 1)) 16 9 ∷ refused (step 1 (receipt 0 1)) 16 9 ∷ refused (step 1 (receipt 2 2)) 16 8 ∷ refused (step 2 (send 0)) 8 9
    ∷ refused (step 2 (send 1)) 8 9 ∷ refused (step 1 (send 0)) 8 9 ∷ accepted (line 0) 12 (0 ∷ 0 ∷ 0 ∷ []) table155 ∷ refused (line 1) 12 15
    ∷ refused (line 2) 12 15 ∷ refused (line 3) 12 15 ∷ refused (line 9) 12 15 ∷ refused (line 4294967295) 12 15
    ∷ accepted (failed 0) 20 (1 ∷ 3 ∷ 3 ∷ 0 ∷ 0 ∷ []) table155 ∷ accepted (failed 1) 20 (0 ∷ 3 ∷ 3 ∷ 1 ∷ 1 ∷ []) table155
    ∷ accepted (failed 2) 20 (1 ∷ 3 ∷ 3 ∷ 2 ∷ 1 ∷ []) table155 ∷ accepted (failed 3) 20 (0 ∷ 3 ∷ 3 ∷ 3 ∷ 2 ∷ []) table155
    ∷ accepted (failed 4) 20 (1 ∷ 3 ∷ 3 ∷ 4 ∷ 1 ∷ []) table155 ∷ accepted (failed 5) 20 (0 ∷ 3 ∷ 3 ∷ 5 ∷ 2 ∷ []) table155
    ∷ accepted (failed 6) 20 (1 ∷ 3 ∷ 3 ∷ 6 ∷ 2 ∷ []) table155 ∷ accepted (failed 7) 20 (0 ∷ 3 ∷ 3 ∷ 7 ∷ 3 ∷ []) table155 ∷ refused (failed 8) 20 11
    ∷ refused (failed 4294967295) 20 11 ∷ []) ∷ []

pub run7_agree : Agree run7
unfolding fresh_on step_on line_on failed_on resend_on layout decoded well_laid word put_word put_words failure_answer failure_line rounds round ones ones_in in_transit
run7_agree = refl

abbrev table156 : List ℕ
table156 = bytes (3 ∷ 4 ∷ 0 ∷ 0 ∷ 0 ∷ 0 ∷ 0 ∷ 0 ∷ 0 ∷ 0 ∷ 0 ∷ 0 ∷ 0 ∷ 0 ∷ 0 ∷ 0 ∷ 0 ∷ 0 ∷ 0 ∷ 0 ∷ 0 ∷ 0 ∷ 0 ∷ 0 ∷ 0 ∷ 0 ∷ 0 ∷ 0 ∷ 0 ∷ 0 ∷ 0 ∷ 0 ∷ 0 ∷ 0 ∷ 0
    ∷ 0 ∷ 0 ∷ 0 ∷ 0 ∷ 0 ∷ 0 ∷ 0 ∷ 0 ∷ 0 ∷ 0 ∷ 0 ∷ 0 ∷ 0 ∷ 0 ∷ 0 ∷ 0 ∷ 0 ∷ 0 ∷ 0 ∷ 0 ∷ 0 ∷ 0 ∷ 0 ∷ 0 ∷ [])

abbrev table157 : List ℕ
table157 = bytes (3 ∷ 4 ∷ 0 ∷ 0 ∷ 0 ∷ 0 ∷ 0 ∷ 0 ∷ 0 ∷ 0 ∷ 0 ∷ 0 ∷ 0 ∷ 0 ∷ 0 ∷ 0 ∷ 0 ∷ 0 ∷ 0 ∷ 0 ∷ 0 ∷ 1 ∷ 0 ∷ 1 ∷ 3 ∷ 2 ∷ 1 ∷ 0 ∷ 0 ∷ 0 ∷ 0 ∷ 0 ∷ 0 ∷ 0 ∷ 0
    ∷ 0 ∷ 0 ∷ 0 ∷ 0 ∷ 0 ∷ 0 ∷ 0 ∷ 0 ∷ 0 ∷ 0 ∷ 0 ∷ 0 ∷ 0 ∷ 0 ∷ 0 ∷ 0 ∷ 0 ∷ 0 ∷ 0 ∷ 0 ∷ 0 ∷ 0 ∷ 0 ∷ 0 ∷ [])

abbrev table158 : List ℕ
table158 = bytes (3 ∷ 4 ∷ 1 ∷ 1 ∷ 0 ∷ 1 ∷ 1 ∷ 0 ∷ 0 ∷ 0 ∷ 0 ∷ 0 ∷ 0 ∷ 0 ∷ 0 ∷ 0 ∷ 0 ∷ 0 ∷ 0 ∷ 0 ∷ 0 ∷ 1 ∷ 0 ∷ 1 ∷ 3 ∷ 2 ∷ 1 ∷ 0 ∷ 0 ∷ 0 ∷ 0 ∷ 0 ∷ 0 ∷ 0 ∷ 0
    ∷ 0 ∷ 0 ∷ 0 ∷ 0 ∷ 0 ∷ 0 ∷ 0 ∷ 0 ∷ 0 ∷ 0 ∷ 0 ∷ 0 ∷ 0 ∷ 0 ∷ 0 ∷ 0 ∷ 0 ∷ 0 ∷ 0 ∷ 0 ∷ 0 ∷ 0 ∷ 0 ∷ 0 ∷ [])

abbrev table159 : List ℕ
table159 = bytes (3 ∷ 4 ∷ 1 ∷ 1 ∷ 0 ∷ 1 ∷ 1 ∷ 0 ∷ 0 ∷ 0 ∷ 0 ∷ 0 ∷ 0 ∷ 0 ∷ 0 ∷ 0 ∷ 0 ∷ 0 ∷ 0 ∷ 0 ∷ 0 ∷ 2 ∷ 1 ∷ 1 ∷ 3 ∷ 2 ∷ 1 ∷ 0 ∷ 1 ∷ 1 ∷ 0 ∷ 0 ∷ 0 ∷ 0 ∷ 0
    ∷ 0 ∷ 0 ∷ 0 ∷ 0 ∷ 0 ∷ 0 ∷ 0 ∷ 0 ∷ 0 ∷ 0 ∷ 0 ∷ 0 ∷ 0 ∷ 0 ∷ 0 ∷ 0 ∷ 0 ∷ 0 ∷ 0 ∷ 0 ∷ 0 ∷ 0 ∷ 0 ∷ 0 ∷ [])

abbrev table160 : List ℕ
table160 = bytes (3 ∷ 4 ∷ 1 ∷ 1 ∷ 0 ∷ 1 ∷ 1 ∷ 0 ∷ 0 ∷ 0 ∷ 0 ∷ 0 ∷ 0 ∷ 0 ∷ 0 ∷ 0 ∷ 0 ∷ 0 ∷ 0 ∷ 0 ∷ 0 ∷ 3 ∷ 2 ∷ 1 ∷ 3 ∷ 2 ∷ 1 ∷ 0 ∷ 1 ∷ 1 ∷ 0 ∷ 0 ∷ 1 ∷ 2 ∷ 0
    ∷ 0 ∷ 0 ∷ 0 ∷ 0 ∷ 0 ∷ 0 ∷ 0 ∷ 0 ∷ 0 ∷ 0 ∷ 0 ∷ 0 ∷ 0 ∷ 0 ∷ 0 ∷ 0 ∷ 0 ∷ 0 ∷ 0 ∷ 0 ∷ 0 ∷ 0 ∷ 0 ∷ 0 ∷ [])

abbrev table161 : List ℕ
table161 = bytes (3 ∷ 4 ∷ 1 ∷ 1 ∷ 0 ∷ 1 ∷ 1 ∷ 0 ∷ 0 ∷ 0 ∷ 0 ∷ 0 ∷ 0 ∷ 0 ∷ 0 ∷ 0 ∷ 0 ∷ 0 ∷ 0 ∷ 0 ∷ 0 ∷ 3 ∷ 2 ∷ 1 ∷ 3 ∷ 2 ∷ 1 ∷ 0 ∷ 1 ∷ 1 ∷ 0 ∷ 0 ∷ 1 ∷ 2 ∷ 0
    ∷ 0 ∷ 0 ∷ 0 ∷ 0 ∷ 0 ∷ 1 ∷ 0 ∷ 0 ∷ 4 ∷ 1 ∷ 1 ∷ 0 ∷ 0 ∷ 0 ∷ 0 ∷ 0 ∷ 0 ∷ 0 ∷ 0 ∷ 0 ∷ 0 ∷ 0 ∷ 0 ∷ 0 ∷ [])

abbrev table162 : List ℕ
table162 = bytes (3 ∷ 4 ∷ 2 ∷ 1 ∷ 1 ∷ 1 ∷ 1 ∷ 0 ∷ 0 ∷ 3 ∷ 2 ∷ 1 ∷ 1 ∷ 0 ∷ 0 ∷ 0 ∷ 0 ∷ 0 ∷ 0 ∷ 0 ∷ 0 ∷ 3 ∷ 2 ∷ 1 ∷ 3 ∷ 2 ∷ 1 ∷ 0 ∷ 1 ∷ 1 ∷ 0 ∷ 0 ∷ 1 ∷ 2 ∷ 0
    ∷ 0 ∷ 0 ∷ 0 ∷ 0 ∷ 0 ∷ 1 ∷ 0 ∷ 0 ∷ 4 ∷ 1 ∷ 1 ∷ 0 ∷ 0 ∷ 0 ∷ 0 ∷ 0 ∷ 0 ∷ 0 ∷ 0 ∷ 0 ∷ 0 ∷ 0 ∷ 0 ∷ 0 ∷ [])

abbrev table163 : List ℕ
table163 = bytes (3 ∷ 4 ∷ 3 ∷ 1 ∷ 2 ∷ 1 ∷ 1 ∷ 0 ∷ 0 ∷ 3 ∷ 2 ∷ 1 ∷ 1 ∷ 3 ∷ 1 ∷ 2 ∷ 1 ∷ 0 ∷ 0 ∷ 0 ∷ 0 ∷ 3 ∷ 2 ∷ 1 ∷ 3 ∷ 2 ∷ 1 ∷ 0 ∷ 1 ∷ 1 ∷ 0 ∷ 0 ∷ 1 ∷ 2 ∷ 0
    ∷ 0 ∷ 0 ∷ 0 ∷ 0 ∷ 0 ∷ 1 ∷ 0 ∷ 0 ∷ 4 ∷ 1 ∷ 1 ∷ 0 ∷ 0 ∷ 0 ∷ 0 ∷ 0 ∷ 0 ∷ 0 ∷ 0 ∷ 0 ∷ 0 ∷ 0 ∷ 0 ∷ 0 ∷ [])

abbrev table164 : List ℕ
table164 = bytes (3 ∷ 4 ∷ 4 ∷ 1 ∷ 3 ∷ 1 ∷ 1 ∷ 0 ∷ 0 ∷ 3 ∷ 2 ∷ 1 ∷ 1 ∷ 3 ∷ 1 ∷ 2 ∷ 1 ∷ 3 ∷ 2 ∷ 3 ∷ 1 ∷ 3 ∷ 2 ∷ 1 ∷ 3 ∷ 2 ∷ 1 ∷ 0 ∷ 1 ∷ 1 ∷ 0 ∷ 0 ∷ 1 ∷ 2 ∷ 0
    ∷ 0 ∷ 0 ∷ 0 ∷ 0 ∷ 0 ∷ 1 ∷ 0 ∷ 0 ∷ 4 ∷ 1 ∷ 1 ∷ 0 ∷ 0 ∷ 0 ∷ 0 ∷ 0 ∷ 0 ∷ 0 ∷ 0 ∷ 0 ∷ 0 ∷ 0 ∷ 0 ∷ 0 ∷ [])

abbrev table165 : List ℕ
table165 = bytes (3 ∷ 4 ∷ 4 ∷ 1 ∷ 3 ∷ 1 ∷ 1 ∷ 0 ∷ 0 ∷ 3 ∷ 2 ∷ 1 ∷ 1 ∷ 3 ∷ 1 ∷ 2 ∷ 1 ∷ 3 ∷ 2 ∷ 3 ∷ 1 ∷ 3 ∷ 2 ∷ 1 ∷ 3 ∷ 2 ∷ 1 ∷ 0 ∷ 1 ∷ 1 ∷ 0 ∷ 0 ∷ 1 ∷ 2 ∷ 0
    ∷ 0 ∷ 0 ∷ 0 ∷ 0 ∷ 0 ∷ 2 ∷ 1 ∷ 0 ∷ 4 ∷ 1 ∷ 1 ∷ 0 ∷ 1 ∷ 1 ∷ 0 ∷ 0 ∷ 0 ∷ 0 ∷ 0 ∷ 0 ∷ 0 ∷ 0 ∷ 0 ∷ 0 ∷ [])

abbrev table166 : List ℕ
table166 = bytes (3 ∷ 4 ∷ 4 ∷ 1 ∷ 3 ∷ 1 ∷ 1 ∷ 0 ∷ 0 ∷ 3 ∷ 2 ∷ 1 ∷ 1 ∷ 3 ∷ 1 ∷ 2 ∷ 1 ∷ 3 ∷ 2 ∷ 3 ∷ 1 ∷ 3 ∷ 2 ∷ 1 ∷ 3 ∷ 2 ∷ 1 ∷ 0 ∷ 1 ∷ 1 ∷ 0 ∷ 0 ∷ 1 ∷ 2 ∷ 0
    ∷ 0 ∷ 0 ∷ 0 ∷ 0 ∷ 0 ∷ 3 ∷ 1 ∷ 1 ∷ 4 ∷ 1 ∷ 1 ∷ 0 ∷ 1 ∷ 1 ∷ 0 ∷ 0 ∷ 3 ∷ 1 ∷ 1 ∷ 1 ∷ 0 ∷ 0 ∷ 0 ∷ 0 ∷ [])

abbrev table167 : List ℕ
table167 = bytes (3 ∷ 4 ∷ 4 ∷ 1 ∷ 3 ∷ 1 ∷ 1 ∷ 0 ∷ 0 ∷ 3 ∷ 2 ∷ 1 ∷ 1 ∷ 3 ∷ 1 ∷ 2 ∷ 1 ∷ 3 ∷ 2 ∷ 3 ∷ 1 ∷ 3 ∷ 2 ∷ 1 ∷ 3 ∷ 2 ∷ 1 ∷ 0 ∷ 1 ∷ 1 ∷ 0 ∷ 0 ∷ 1 ∷ 2 ∷ 0
    ∷ 0 ∷ 0 ∷ 0 ∷ 0 ∷ 0 ∷ 4 ∷ 1 ∷ 1 ∷ 4 ∷ 1 ∷ 1 ∷ 0 ∷ 1 ∷ 1 ∷ 0 ∷ 0 ∷ 3 ∷ 1 ∷ 1 ∷ 1 ∷ 4 ∷ 0 ∷ 3 ∷ 1 ∷ [])

abbrev table168 : List ℕ
table168 = bytes (3 ∷ 4 ∷ 4 ∷ 1 ∷ 3 ∷ 1 ∷ 1 ∷ 0 ∷ 0 ∷ 3 ∷ 2 ∷ 1 ∷ 1 ∷ 3 ∷ 1 ∷ 2 ∷ 1 ∷ 3 ∷ 2 ∷ 3 ∷ 1 ∷ 4 ∷ 2 ∷ 1 ∷ 3 ∷ 2 ∷ 1 ∷ 0 ∷ 1 ∷ 1 ∷ 0 ∷ 0 ∷ 1 ∷ 2 ∷ 0
    ∷ 0 ∷ 4 ∷ 2 ∷ 1 ∷ 1 ∷ 4 ∷ 1 ∷ 1 ∷ 4 ∷ 1 ∷ 1 ∷ 0 ∷ 1 ∷ 1 ∷ 0 ∷ 0 ∷ 3 ∷ 1 ∷ 1 ∷ 1 ∷ 4 ∷ 0 ∷ 3 ∷ 1 ∷ [])

-- A run from fresh: n = 3, E = 4.
abbrev run8 : List Script
run8 = script (lent 236) (accepted (fresh 3 4) 0 [] table156 ∷ accepted (step 1 (send 2)) 8 (1 ∷ 0 ∷ []) table157
    ∷ accepted (step 0 checkpoint) 4 (1 ∷ []) table158 ∷ refused (step 2 (receipt 1 1)) 3 4 ∷ refused (step 2 (receipt 1 1)) 12 4
    ∷ refused (step 2 (send 2)) 8 6 ∷ accepted (step 1 checkpoint) 4 (1 ∷ []) table159 ∷ accepted (step 1 checkpoint) 4 (2 ∷ []) table160
    ∷ refused (step 2 (receipt 1 1)) 12 4 ∷ accepted (step 2 (receipt 1 1)) 16 (0 ∷ 0 ∷ 1 ∷ 1 ∷ []) table161
    ∷ accepted (step 0 (send 2)) 8 (1 ∷ 1 ∷ []) table162 ∷ accepted (step 0 (send 1)) 8 (2 ∷ 1 ∷ []) table163
    ∷ accepted (step 0 (send 2)) 8 (3 ∷ 1 ∷ []) table164 ∷ accepted (step 2 checkpoint) 4 (1 ∷ []) table165
    ∷ accepted (step 2 (send 1)) 8 (1 ∷ 1 ∷ []) table166 ∷ accepted (step 2 (receipt 0 3)) 16 (1 ∷ 0 ∷ 4 ∷ 4 ∷ []) table167
    ∷ refused (step 2 (receipt 0 1)) 16 9 ∷ refused (step 2 checkpoint) 4 9 ∷ accepted (step 1 (receipt 2 1)) 16 (1 ∷ 0 ∷ 3 ∷ 4 ∷ []) table168
    ∷ refused (step 1 (receipt 0 2)) 16 9 ∷ refused (step 1 (receipt 2 1)) 16 8 ∷ accepted (line 0) 12 (0 ∷ 0 ∷ 0 ∷ []) table168
    ∷ accepted (line 1) 12 (1 ∷ 2 ∷ 2 ∷ []) table168 ∷ refused (line 2) 12 15 ∷ refused (line 3) 12 15 ∷ refused (line 12) 12 15
    ∷ refused (line 4294967295) 12 15 ∷ accepted (failed 0) 20 (4 ∷ 4 ∷ 4 ∷ 0 ∷ 0 ∷ []) table168 ∷ accepted (failed 1) 20 (1 ∷ 3 ∷ 2 ∷ 7 ∷ 3 ∷ []) table168
    ∷ accepted (failed 2) 20 (4 ∷ 3 ∷ 4 ∷ 2 ∷ 1 ∷ []) table168 ∷ accepted (failed 3) 20 (1 ∷ 3 ∷ 2 ∷ 7 ∷ 3 ∷ []) table168
    ∷ accepted (failed 4) 20 (4 ∷ 3 ∷ 2 ∷ 6 ∷ 2 ∷ []) table168 ∷ accepted (failed 5) 20 (1 ∷ 3 ∷ 2 ∷ 7 ∷ 3 ∷ []) table168
    ∷ accepted (failed 6) 20 (4 ∷ 3 ∷ 2 ∷ 6 ∷ 2 ∷ []) table168 ∷ accepted (failed 7) 20 (1 ∷ 3 ∷ 2 ∷ 7 ∷ 3 ∷ []) table168 ∷ refused (failed 8) 20 11
    ∷ refused (failed 4294967295) 20 11 ∷ []) ∷ []

pub run8_agree : Agree run8
unfolding fresh_on step_on line_on failed_on resend_on layout decoded well_laid word put_word put_words failure_answer failure_line rounds round ones ones_in in_transit
run8_agree = refl

abbrev table169 : List ℕ
table169 = bytes (3 ∷ 6 ∷ 0 ∷ 0 ∷ 0 ∷ 0 ∷ 0 ∷ 0 ∷ 0 ∷ 0 ∷ 0 ∷ 0 ∷ 0 ∷ 0 ∷ 0 ∷ 0 ∷ 0 ∷ 0 ∷ 0 ∷ 0 ∷ 0 ∷ 0 ∷ 0 ∷ 0 ∷ 0 ∷ 0 ∷ 0 ∷ 0 ∷ 0 ∷ 0 ∷ 0 ∷ 0 ∷ 0 ∷ 0 ∷ 0
    ∷ 0 ∷ 0 ∷ 0 ∷ 0 ∷ 0 ∷ 0 ∷ 0 ∷ 0 ∷ 0 ∷ 0 ∷ 0 ∷ 0 ∷ 0 ∷ 0 ∷ 0 ∷ 0 ∷ 0 ∷ 0 ∷ 0 ∷ 0 ∷ 0 ∷ 1 ∷ 0 ∷ 1 ∷ 3 ∷ 0 ∷ 1 ∷ 0 ∷ 0 ∷ 0 ∷ 0 ∷ 0 ∷ 0 ∷ 0 ∷ 0 ∷ 0 ∷ 0 ∷ 0
    ∷ 0 ∷ 0 ∷ 0 ∷ 0 ∷ 0 ∷ 0 ∷ 0 ∷ 0 ∷ 0 ∷ 0 ∷ [])

abbrev table170 : List ℕ
table170 = bytes (3 ∷ 6 ∷ 0 ∷ 0 ∷ 0 ∷ 0 ∷ 0 ∷ 0 ∷ 0 ∷ 0 ∷ 0 ∷ 0 ∷ 0 ∷ 0 ∷ 0 ∷ 0 ∷ 0 ∷ 0 ∷ 0 ∷ 0 ∷ 0 ∷ 0 ∷ 0 ∷ 0 ∷ 0 ∷ 0 ∷ 0 ∷ 0 ∷ 0 ∷ 0 ∷ 0 ∷ 0 ∷ 0 ∷ 0 ∷ 0
    ∷ 0 ∷ 0 ∷ 0 ∷ 0 ∷ 0 ∷ 0 ∷ 0 ∷ 0 ∷ 0 ∷ 0 ∷ 0 ∷ 0 ∷ 0 ∷ 0 ∷ 0 ∷ 0 ∷ 0 ∷ 0 ∷ 0 ∷ 0 ∷ 0 ∷ 2 ∷ 0 ∷ 2 ∷ 3 ∷ 0 ∷ 1 ∷ 0 ∷ 3 ∷ 1 ∷ 2 ∷ 0 ∷ 0 ∷ 0 ∷ 0 ∷ 0 ∷ 0 ∷ 0
    ∷ 0 ∷ 0 ∷ 0 ∷ 0 ∷ 0 ∷ 0 ∷ 0 ∷ 0 ∷ 0 ∷ 0 ∷ [])

abbrev table171 : List ℕ
table171 = bytes (3 ∷ 6 ∷ 1 ∷ 0 ∷ 0 ∷ 4 ∷ 2 ∷ 1 ∷ 0 ∷ 0 ∷ 0 ∷ 0 ∷ 0 ∷ 0 ∷ 0 ∷ 0 ∷ 0 ∷ 0 ∷ 0 ∷ 0 ∷ 0 ∷ 0 ∷ 0 ∷ 0 ∷ 0 ∷ 0 ∷ 0 ∷ 0 ∷ 0 ∷ 0 ∷ 0 ∷ 0 ∷ 0 ∷ 0 ∷ 0
    ∷ 0 ∷ 0 ∷ 0 ∷ 0 ∷ 0 ∷ 0 ∷ 0 ∷ 0 ∷ 0 ∷ 0 ∷ 0 ∷ 0 ∷ 0 ∷ 0 ∷ 0 ∷ 0 ∷ 0 ∷ 0 ∷ 0 ∷ 0 ∷ 0 ∷ 2 ∷ 0 ∷ 2 ∷ 3 ∷ 0 ∷ 1 ∷ 0 ∷ 3 ∷ 1 ∷ 2 ∷ 0 ∷ 0 ∷ 0 ∷ 0 ∷ 0 ∷ 0 ∷ 0
    ∷ 0 ∷ 0 ∷ 0 ∷ 0 ∷ 0 ∷ 0 ∷ 0 ∷ 0 ∷ 0 ∷ 0 ∷ [])

abbrev table172 : List ℕ
table172 = bytes (3 ∷ 6 ∷ 1 ∷ 0 ∷ 0 ∷ 4 ∷ 2 ∷ 1 ∷ 0 ∷ 0 ∷ 0 ∷ 0 ∷ 0 ∷ 0 ∷ 0 ∷ 0 ∷ 0 ∷ 0 ∷ 0 ∷ 0 ∷ 0 ∷ 0 ∷ 0 ∷ 0 ∷ 0 ∷ 0 ∷ 0 ∷ 0 ∷ 0 ∷ 1 ∷ 0 ∷ 1 ∷ 3 ∷ 2 ∷ 1
    ∷ 0 ∷ 0 ∷ 0 ∷ 0 ∷ 0 ∷ 0 ∷ 0 ∷ 0 ∷ 0 ∷ 0 ∷ 0 ∷ 0 ∷ 0 ∷ 0 ∷ 0 ∷ 0 ∷ 0 ∷ 0 ∷ 0 ∷ 0 ∷ 0 ∷ 2 ∷ 0 ∷ 2 ∷ 3 ∷ 0 ∷ 1 ∷ 0 ∷ 3 ∷ 1 ∷ 2 ∷ 0 ∷ 0 ∷ 0 ∷ 0 ∷ 0 ∷ 0 ∷ 0
    ∷ 0 ∷ 0 ∷ 0 ∷ 0 ∷ 0 ∷ 0 ∷ 0 ∷ 0 ∷ 0 ∷ 0 ∷ [])

abbrev table173 : List ℕ
table173 = bytes (3 ∷ 6 ∷ 1 ∷ 0 ∷ 0 ∷ 4 ∷ 2 ∷ 1 ∷ 0 ∷ 0 ∷ 0 ∷ 0 ∷ 0 ∷ 0 ∷ 0 ∷ 0 ∷ 0 ∷ 0 ∷ 0 ∷ 0 ∷ 0 ∷ 0 ∷ 0 ∷ 0 ∷ 0 ∷ 0 ∷ 0 ∷ 0 ∷ 0 ∷ 2 ∷ 0 ∷ 2 ∷ 3 ∷ 2 ∷ 1
    ∷ 0 ∷ 3 ∷ 2 ∷ 2 ∷ 0 ∷ 0 ∷ 0 ∷ 0 ∷ 0 ∷ 0 ∷ 0 ∷ 0 ∷ 0 ∷ 0 ∷ 0 ∷ 0 ∷ 0 ∷ 0 ∷ 0 ∷ 0 ∷ 0 ∷ 2 ∷ 0 ∷ 2 ∷ 3 ∷ 0 ∷ 1 ∷ 0 ∷ 3 ∷ 1 ∷ 2 ∷ 0 ∷ 0 ∷ 0 ∷ 0 ∷ 0 ∷ 0 ∷ 0
    ∷ 0 ∷ 0 ∷ 0 ∷ 0 ∷ 0 ∷ 0 ∷ 0 ∷ 0 ∷ 0 ∷ 0 ∷ [])

abbrev table174 : List ℕ
table174 = bytes (3 ∷ 6 ∷ 1 ∷ 0 ∷ 0 ∷ 4 ∷ 2 ∷ 1 ∷ 0 ∷ 0 ∷ 0 ∷ 0 ∷ 0 ∷ 0 ∷ 0 ∷ 0 ∷ 0 ∷ 0 ∷ 0 ∷ 0 ∷ 0 ∷ 0 ∷ 0 ∷ 0 ∷ 0 ∷ 0 ∷ 0 ∷ 0 ∷ 0 ∷ 3 ∷ 0 ∷ 3 ∷ 3 ∷ 2 ∷ 1
    ∷ 0 ∷ 3 ∷ 2 ∷ 2 ∷ 0 ∷ 3 ∷ 2 ∷ 3 ∷ 0 ∷ 0 ∷ 0 ∷ 0 ∷ 0 ∷ 0 ∷ 0 ∷ 0 ∷ 0 ∷ 0 ∷ 0 ∷ 0 ∷ 0 ∷ 2 ∷ 0 ∷ 2 ∷ 3 ∷ 0 ∷ 1 ∷ 0 ∷ 3 ∷ 1 ∷ 2 ∷ 0 ∷ 0 ∷ 0 ∷ 0 ∷ 0 ∷ 0 ∷ 0
    ∷ 0 ∷ 0 ∷ 0 ∷ 0 ∷ 0 ∷ 0 ∷ 0 ∷ 0 ∷ 0 ∷ 0 ∷ [])

abbrev table175 : List ℕ
table175 = bytes (3 ∷ 6 ∷ 1 ∷ 0 ∷ 0 ∷ 4 ∷ 2 ∷ 1 ∷ 0 ∷ 0 ∷ 0 ∷ 0 ∷ 0 ∷ 0 ∷ 0 ∷ 0 ∷ 0 ∷ 0 ∷ 0 ∷ 0 ∷ 0 ∷ 0 ∷ 0 ∷ 0 ∷ 0 ∷ 0 ∷ 0 ∷ 0 ∷ 0 ∷ 3 ∷ 0 ∷ 3 ∷ 3 ∷ 2 ∷ 1
    ∷ 0 ∷ 3 ∷ 2 ∷ 2 ∷ 0 ∷ 3 ∷ 2 ∷ 3 ∷ 0 ∷ 0 ∷ 0 ∷ 0 ∷ 0 ∷ 0 ∷ 0 ∷ 0 ∷ 0 ∷ 0 ∷ 0 ∷ 0 ∷ 0 ∷ 3 ∷ 0 ∷ 3 ∷ 3 ∷ 0 ∷ 1 ∷ 0 ∷ 3 ∷ 1 ∷ 2 ∷ 0 ∷ 3 ∷ 0 ∷ 3 ∷ 0 ∷ 0 ∷ 0
    ∷ 0 ∷ 0 ∷ 0 ∷ 0 ∷ 0 ∷ 0 ∷ 0 ∷ 0 ∷ 0 ∷ 0 ∷ [])

abbrev table176 : List ℕ
table176 = bytes (3 ∷ 6 ∷ 1 ∷ 0 ∷ 0 ∷ 4 ∷ 2 ∷ 1 ∷ 0 ∷ 0 ∷ 0 ∷ 0 ∷ 0 ∷ 0 ∷ 0 ∷ 0 ∷ 0 ∷ 0 ∷ 0 ∷ 0 ∷ 0 ∷ 0 ∷ 0 ∷ 0 ∷ 0 ∷ 0 ∷ 0 ∷ 0 ∷ 0 ∷ 4 ∷ 1 ∷ 3 ∷ 3 ∷ 2 ∷ 1
    ∷ 0 ∷ 3 ∷ 2 ∷ 2 ∷ 0 ∷ 3 ∷ 2 ∷ 3 ∷ 0 ∷ 1 ∷ 1 ∷ 0 ∷ 0 ∷ 0 ∷ 0 ∷ 0 ∷ 0 ∷ 0 ∷ 0 ∷ 0 ∷ 0 ∷ 3 ∷ 0 ∷ 3 ∷ 3 ∷ 0 ∷ 1 ∷ 0 ∷ 3 ∷ 1 ∷ 2 ∷ 0 ∷ 3 ∷ 0 ∷ 3 ∷ 0 ∷ 0 ∷ 0
    ∷ 0 ∷ 0 ∷ 0 ∷ 0 ∷ 0 ∷ 0 ∷ 0 ∷ 0 ∷ 0 ∷ 0 ∷ [])

abbrev table177 : List ℕ
table177 = bytes (3 ∷ 6 ∷ 1 ∷ 0 ∷ 0 ∷ 4 ∷ 2 ∷ 1 ∷ 0 ∷ 0 ∷ 0 ∷ 0 ∷ 0 ∷ 0 ∷ 0 ∷ 0 ∷ 0 ∷ 0 ∷ 0 ∷ 0 ∷ 0 ∷ 0 ∷ 0 ∷ 0 ∷ 0 ∷ 0 ∷ 0 ∷ 0 ∷ 0 ∷ 5 ∷ 1 ∷ 4 ∷ 3 ∷ 2 ∷ 1
    ∷ 0 ∷ 3 ∷ 2 ∷ 2 ∷ 0 ∷ 3 ∷ 2 ∷ 3 ∷ 0 ∷ 1 ∷ 1 ∷ 0 ∷ 0 ∷ 3 ∷ 2 ∷ 4 ∷ 1 ∷ 0 ∷ 0 ∷ 0 ∷ 0 ∷ 3 ∷ 0 ∷ 3 ∷ 3 ∷ 0 ∷ 1 ∷ 0 ∷ 3 ∷ 1 ∷ 2 ∷ 0 ∷ 3 ∷ 0 ∷ 3 ∷ 0 ∷ 0 ∷ 0
    ∷ 0 ∷ 0 ∷ 0 ∷ 0 ∷ 0 ∷ 0 ∷ 0 ∷ 0 ∷ 0 ∷ 0 ∷ [])

abbrev table178 : List ℕ
table178 = bytes (3 ∷ 6 ∷ 2 ∷ 0 ∷ 0 ∷ 4 ∷ 2 ∷ 1 ∷ 0 ∷ 4 ∷ 2 ∷ 3 ∷ 0 ∷ 0 ∷ 0 ∷ 0 ∷ 0 ∷ 0 ∷ 0 ∷ 0 ∷ 0 ∷ 0 ∷ 0 ∷ 0 ∷ 0 ∷ 0 ∷ 0 ∷ 0 ∷ 0 ∷ 5 ∷ 1 ∷ 4 ∷ 3 ∷ 2 ∷ 1
    ∷ 0 ∷ 3 ∷ 2 ∷ 2 ∷ 0 ∷ 3 ∷ 2 ∷ 3 ∷ 0 ∷ 1 ∷ 1 ∷ 0 ∷ 0 ∷ 3 ∷ 2 ∷ 4 ∷ 1 ∷ 0 ∷ 0 ∷ 0 ∷ 0 ∷ 3 ∷ 0 ∷ 3 ∷ 3 ∷ 0 ∷ 1 ∷ 0 ∷ 3 ∷ 1 ∷ 2 ∷ 0 ∷ 3 ∷ 0 ∷ 3 ∷ 0 ∷ 0 ∷ 0
    ∷ 0 ∷ 0 ∷ 0 ∷ 0 ∷ 0 ∷ 0 ∷ 0 ∷ 0 ∷ 0 ∷ 0 ∷ [])

abbrev table179 : List ℕ
table179 = bytes (3 ∷ 6 ∷ 3 ∷ 1 ∷ 0 ∷ 4 ∷ 2 ∷ 1 ∷ 0 ∷ 4 ∷ 2 ∷ 3 ∷ 0 ∷ 1 ∷ 1 ∷ 0 ∷ 0 ∷ 0 ∷ 0 ∷ 0 ∷ 0 ∷ 0 ∷ 0 ∷ 0 ∷ 0 ∷ 0 ∷ 0 ∷ 0 ∷ 0 ∷ 5 ∷ 1 ∷ 4 ∷ 3 ∷ 2 ∷ 1
    ∷ 0 ∷ 3 ∷ 2 ∷ 2 ∷ 0 ∷ 3 ∷ 2 ∷ 3 ∷ 0 ∷ 1 ∷ 1 ∷ 0 ∷ 0 ∷ 3 ∷ 2 ∷ 4 ∷ 1 ∷ 0 ∷ 0 ∷ 0 ∷ 0 ∷ 3 ∷ 0 ∷ 3 ∷ 3 ∷ 0 ∷ 1 ∷ 0 ∷ 3 ∷ 1 ∷ 2 ∷ 0 ∷ 3 ∷ 0 ∷ 3 ∷ 0 ∷ 0 ∷ 0
    ∷ 0 ∷ 0 ∷ 0 ∷ 0 ∷ 0 ∷ 0 ∷ 0 ∷ 0 ∷ 0 ∷ 0 ∷ [])

abbrev table180 : List ℕ
table180 = bytes (3 ∷ 6 ∷ 3 ∷ 1 ∷ 0 ∷ 4 ∷ 2 ∷ 1 ∷ 0 ∷ 4 ∷ 2 ∷ 3 ∷ 0 ∷ 1 ∷ 1 ∷ 0 ∷ 0 ∷ 0 ∷ 0 ∷ 0 ∷ 0 ∷ 0 ∷ 0 ∷ 0 ∷ 0 ∷ 0 ∷ 0 ∷ 0 ∷ 0 ∷ 6 ∷ 1 ∷ 5 ∷ 3 ∷ 2 ∷ 1
    ∷ 0 ∷ 3 ∷ 2 ∷ 2 ∷ 0 ∷ 3 ∷ 2 ∷ 3 ∷ 0 ∷ 1 ∷ 1 ∷ 0 ∷ 0 ∷ 3 ∷ 2 ∷ 4 ∷ 1 ∷ 3 ∷ 2 ∷ 5 ∷ 1 ∷ 3 ∷ 0 ∷ 3 ∷ 3 ∷ 0 ∷ 1 ∷ 0 ∷ 3 ∷ 1 ∷ 2 ∷ 0 ∷ 3 ∷ 0 ∷ 3 ∷ 0 ∷ 0 ∷ 0
    ∷ 0 ∷ 0 ∷ 0 ∷ 0 ∷ 0 ∷ 0 ∷ 0 ∷ 0 ∷ 0 ∷ 0 ∷ [])

abbrev table181 : List ℕ
table181 = bytes (3 ∷ 6 ∷ 3 ∷ 1 ∷ 0 ∷ 4 ∷ 2 ∷ 1 ∷ 0 ∷ 4 ∷ 2 ∷ 3 ∷ 0 ∷ 1 ∷ 1 ∷ 0 ∷ 0 ∷ 0 ∷ 0 ∷ 0 ∷ 0 ∷ 0 ∷ 0 ∷ 0 ∷ 0 ∷ 0 ∷ 0 ∷ 0 ∷ 0 ∷ 6 ∷ 1 ∷ 5 ∷ 3 ∷ 2 ∷ 1
    ∷ 0 ∷ 3 ∷ 2 ∷ 2 ∷ 0 ∷ 3 ∷ 2 ∷ 3 ∷ 0 ∷ 1 ∷ 1 ∷ 0 ∷ 0 ∷ 3 ∷ 2 ∷ 4 ∷ 1 ∷ 3 ∷ 2 ∷ 5 ∷ 1 ∷ 4 ∷ 0 ∷ 3 ∷ 3 ∷ 0 ∷ 1 ∷ 0 ∷ 3 ∷ 1 ∷ 2 ∷ 0 ∷ 3 ∷ 0 ∷ 3 ∷ 0 ∷ 4 ∷ 1
    ∷ 2 ∷ 0 ∷ 0 ∷ 0 ∷ 0 ∷ 0 ∷ 0 ∷ 0 ∷ 0 ∷ 0 ∷ [])

abbrev table182 : List ℕ
table182 = bytes (3 ∷ 6 ∷ 4 ∷ 2 ∷ 0 ∷ 4 ∷ 2 ∷ 1 ∷ 0 ∷ 4 ∷ 2 ∷ 3 ∷ 0 ∷ 1 ∷ 1 ∷ 0 ∷ 0 ∷ 1 ∷ 2 ∷ 0 ∷ 0 ∷ 0 ∷ 0 ∷ 0 ∷ 0 ∷ 0 ∷ 0 ∷ 0 ∷ 0 ∷ 6 ∷ 1 ∷ 5 ∷ 3 ∷ 2 ∷ 1
    ∷ 0 ∷ 3 ∷ 2 ∷ 2 ∷ 0 ∷ 3 ∷ 2 ∷ 3 ∷ 0 ∷ 1 ∷ 1 ∷ 0 ∷ 0 ∷ 3 ∷ 2 ∷ 4 ∷ 1 ∷ 3 ∷ 2 ∷ 5 ∷ 1 ∷ 4 ∷ 0 ∷ 3 ∷ 3 ∷ 0 ∷ 1 ∷ 0 ∷ 3 ∷ 1 ∷ 2 ∷ 0 ∷ 3 ∷ 0 ∷ 3 ∷ 0 ∷ 4 ∷ 1
    ∷ 2 ∷ 0 ∷ 0 ∷ 0 ∷ 0 ∷ 0 ∷ 0 ∷ 0 ∷ 0 ∷ 0 ∷ [])

abbrev table183 : List ℕ
table183 = bytes (3 ∷ 6 ∷ 4 ∷ 2 ∷ 0 ∷ 4 ∷ 2 ∷ 1 ∷ 0 ∷ 4 ∷ 2 ∷ 3 ∷ 0 ∷ 1 ∷ 1 ∷ 0 ∷ 0 ∷ 1 ∷ 2 ∷ 0 ∷ 0 ∷ 0 ∷ 0 ∷ 0 ∷ 0 ∷ 0 ∷ 0 ∷ 0 ∷ 0 ∷ 6 ∷ 1 ∷ 5 ∷ 3 ∷ 2 ∷ 1
    ∷ 0 ∷ 3 ∷ 2 ∷ 2 ∷ 0 ∷ 3 ∷ 2 ∷ 3 ∷ 0 ∷ 1 ∷ 1 ∷ 0 ∷ 0 ∷ 3 ∷ 2 ∷ 4 ∷ 1 ∷ 3 ∷ 2 ∷ 5 ∷ 1 ∷ 5 ∷ 0 ∷ 4 ∷ 3 ∷ 0 ∷ 1 ∷ 0 ∷ 3 ∷ 1 ∷ 2 ∷ 0 ∷ 3 ∷ 0 ∷ 3 ∷ 0 ∷ 4 ∷ 1
    ∷ 2 ∷ 0 ∷ 3 ∷ 1 ∷ 4 ∷ 0 ∷ 0 ∷ 0 ∷ 0 ∷ 0 ∷ [])

abbrev table184 : List ℕ
table184 = bytes (3 ∷ 6 ∷ 4 ∷ 2 ∷ 0 ∷ 4 ∷ 2 ∷ 1 ∷ 0 ∷ 4 ∷ 2 ∷ 3 ∷ 0 ∷ 1 ∷ 1 ∷ 0 ∷ 0 ∷ 1 ∷ 2 ∷ 0 ∷ 0 ∷ 0 ∷ 0 ∷ 0 ∷ 0 ∷ 0 ∷ 0 ∷ 0 ∷ 0 ∷ 6 ∷ 1 ∷ 5 ∷ 3 ∷ 2 ∷ 1
    ∷ 0 ∷ 3 ∷ 2 ∷ 2 ∷ 0 ∷ 3 ∷ 2 ∷ 3 ∷ 0 ∷ 1 ∷ 1 ∷ 0 ∷ 0 ∷ 3 ∷ 2 ∷ 4 ∷ 1 ∷ 3 ∷ 2 ∷ 5 ∷ 1 ∷ 6 ∷ 0 ∷ 5 ∷ 3 ∷ 0 ∷ 1 ∷ 0 ∷ 3 ∷ 1 ∷ 2 ∷ 0 ∷ 3 ∷ 0 ∷ 3 ∷ 0 ∷ 4 ∷ 1
    ∷ 2 ∷ 0 ∷ 3 ∷ 1 ∷ 4 ∷ 0 ∷ 3 ∷ 1 ∷ 5 ∷ 0 ∷ [])

-- A run from fresh: n = 3, E = 6.
abbrev run9 : List Script
run9 = script (lent 332) (accepted (fresh 3 6) 0 [] table0 ∷ accepted (step 2 (send 0)) 8 (1 ∷ 0 ∷ []) table169
    ∷ accepted (step 2 (send 1)) 8 (2 ∷ 0 ∷ []) table170 ∷ accepted (step 0 (receipt 2 1)) 16 (0 ∷ 0 ∷ 1 ∷ 1 ∷ []) table171
    ∷ accepted (step 1 (send 2)) 8 (1 ∷ 0 ∷ []) table172 ∷ accepted (step 1 (send 2)) 8 (2 ∷ 0 ∷ []) table173
    ∷ accepted (step 1 (send 2)) 8 (3 ∷ 0 ∷ []) table174 ∷ accepted (step 2 (send 0)) 8 (3 ∷ 0 ∷ []) table175
    ∷ accepted (step 1 checkpoint) 4 (1 ∷ []) table176 ∷ refused (step 0 (receipt 2 2)) 16 7 ∷ accepted (step 1 (send 2)) 8 (4 ∷ 1 ∷ []) table177
    ∷ accepted (step 0 (receipt 2 3)) 16 (0 ∷ 0 ∷ 3 ∷ 2 ∷ []) table178 ∷ accepted (step 0 checkpoint) 4 (1 ∷ []) table179
    ∷ accepted (step 1 (send 2)) 8 (5 ∷ 1 ∷ []) table180 ∷ refused (step 0 (receipt 2 3)) 16 8
    ∷ accepted (step 2 (receipt 1 2)) 16 (0 ∷ 0 ∷ 2 ∷ 4 ∷ []) table181 ∷ accepted (step 0 checkpoint) 4 (2 ∷ []) table182
    ∷ accepted (step 2 (send 1)) 8 (4 ∷ 0 ∷ []) table183 ∷ refused (step 1 (receipt 2 5)) 16 7 ∷ refused (step 0 (send 2)) 0 4
    ∷ refused (step 1 checkpoint) 4 9 ∷ accepted (step 2 (send 1)) 8 (5 ∷ 0 ∷ []) table184 ∷ refused (step 2 (receipt 1 5)) 16 9
    ∷ refused (step 1 (send 0)) 8 9 ∷ refused (step 2 (receipt 1 3)) 16 9 ∷ accepted (line 0) 12 (0 ∷ 0 ∷ 0 ∷ []) table184 ∷ refused (line 1) 12 15
    ∷ refused (line 2) 12 15 ∷ refused (line 3) 12 15 ∷ refused (line 18) 12 15 ∷ refused (line 4294967295) 12 15
    ∷ accepted (failed 0) 20 (4 ∷ 6 ∷ 6 ∷ 0 ∷ 0 ∷ []) table184 ∷ accepted (failed 1) 20 (4 ∷ 6 ∷ 6 ∷ 1 ∷ 1 ∷ []) table184
    ∷ accepted (failed 2) 20 (4 ∷ 4 ∷ 6 ∷ 2 ∷ 1 ∷ []) table184 ∷ accepted (failed 3) 20 (4 ∷ 4 ∷ 6 ∷ 3 ∷ 2 ∷ []) table184
    ∷ accepted (failed 4) 20 (0 ∷ 6 ∷ 0 ∷ 5 ∷ 2 ∷ []) table184 ∷ accepted (failed 5) 20 (0 ∷ 6 ∷ 0 ∷ 5 ∷ 2 ∷ []) table184
    ∷ accepted (failed 6) 20 (0 ∷ 4 ∷ 0 ∷ 7 ∷ 3 ∷ []) table184 ∷ accepted (failed 7) 20 (0 ∷ 4 ∷ 0 ∷ 7 ∷ 3 ∷ []) table184 ∷ refused (failed 8) 20 11
    ∷ refused (failed 4294967295) 20 11 ∷ []) ∷ []

pub run9_agree : Agree run9
unfolding fresh_on step_on line_on failed_on resend_on layout decoded well_laid word put_word put_words failure_answer failure_line rounds round ones ones_in in_transit
run9_agree = refl

abbrev table185 : List ℕ
table185 = bytes (1 ∷ 1 ∷ 1 ∷ 0 ∷ 0 ∷ 1 ∷ 0 ∷ 0 ∷ 0 ∷ [])

-- A well laid table that no run makes: n = 1, E = 1.
abbrev unmade0 : List Script
unmade0 = script table185 (accepted (line 0) 4 (0 ∷ []) table185 ∷ refused (line 1) 4 15 ∷ refused (line 2) 4 15 ∷ refused (line 1) 4 15
    ∷ refused (line 2) 4 15 ∷ refused (line 4294967295) 4 15 ∷ accepted (failed 0) 12 (1 ∷ 0 ∷ 0 ∷ []) table185
    ∷ accepted (failed 1) 12 (1 ∷ 1 ∷ 1 ∷ []) table185 ∷ refused (failed 2) 12 11 ∷ refused (failed 4294967295) 12 11 ∷ refused (step 0 (send 0)) 8 6
    ∷ refused (step 0 (send 0)) 8 6 ∷ refused (step 0 (send 0)) 8 6 ∷ refused (step 1 checkpoint) 4 5 ∷ refused (step 0 (receipt 0 2)) 16 6
    ∷ refused (step 0 checkpoint) 4 9 ∷ refused (step 0 checkpoint) 4 9 ∷ refused (step 0 (send 0)) 8 6 ∷ refused (step 0 (send 0)) 7 4
    ∷ refused (step 0 (send 0)) 8 6 ∷ []) ∷ []

pub unmade0_agree : Agree unmade0
unfolding fresh_on step_on line_on failed_on resend_on layout decoded well_laid word put_word put_words failure_answer failure_line rounds round ones ones_in in_transit
unmade0_agree = refl

abbrev table186 : List ℕ
table186 = bytes (1 ∷ 3 ∷ 1 ∷ 1 ∷ 0 ∷ 1 ∷ 1 ∷ 0 ∷ 0 ∷ 0 ∷ 0 ∷ 0 ∷ 0 ∷ 0 ∷ 0 ∷ 0 ∷ 0 ∷ [])

abbrev table187 : List ℕ
table187 = bytes (1 ∷ 3 ∷ 2 ∷ 2 ∷ 0 ∷ 1 ∷ 1 ∷ 0 ∷ 0 ∷ 1 ∷ 2 ∷ 0 ∷ 0 ∷ 0 ∷ 0 ∷ 0 ∷ 0 ∷ [])

abbrev table188 : List ℕ
table188 = bytes (1 ∷ 3 ∷ 3 ∷ 3 ∷ 0 ∷ 1 ∷ 1 ∷ 0 ∷ 0 ∷ 1 ∷ 2 ∷ 0 ∷ 0 ∷ 1 ∷ 3 ∷ 0 ∷ 0 ∷ [])

-- A well laid table that no run makes: n = 1, E = 3.
abbrev unmade1 : List Script
unmade1 = script table186 (accepted (line 0) 4 (0 ∷ []) table186 ∷ accepted (line 1) 4 (1 ∷ []) table186 ∷ refused (line 2) 4 15 ∷ refused (line 3) 4 15
    ∷ refused (line 4) 4 15 ∷ refused (line 4294967295) 4 15 ∷ accepted (failed 0) 12 (1 ∷ 0 ∷ 0 ∷ []) table186
    ∷ accepted (failed 1) 12 (1 ∷ 1 ∷ 1 ∷ []) table186 ∷ refused (failed 2) 12 11 ∷ refused (failed 4294967295) 12 11
    ∷ accepted (step 0 checkpoint) 4 (2 ∷ []) table187 ∷ refused (step 0 (send 0)) 8 6 ∷ refused (step 1345826243 (send 0)) 8 5
    ∷ refused (step 0 (send 0)) 8 6 ∷ refused (step 0 (send 0)) 8 6 ∷ refused (step 0 (send 0)) 8 6 ∷ accepted (step 0 checkpoint) 4 (3 ∷ []) table188
    ∷ refused (step 0 (receipt 0 3)) 16 6 ∷ refused (step 0 checkpoint) 4 9 ∷ refused (step 0 (send 0)) 8 6 ∷ []) ∷ []

pub unmade1_agree : Agree unmade1
unfolding fresh_on step_on line_on failed_on resend_on layout decoded well_laid word put_word put_words failure_answer failure_line rounds round ones ones_in in_transit
unmade1_agree = refl

abbrev table189 : List ℕ
table189 = bytes (2 ∷ 1 ∷ 1 ∷ 0 ∷ 0 ∷ 2 ∷ 0 ∷ 0 ∷ 0 ∷ 0 ∷ 0 ∷ 0 ∷ 0 ∷ 0 ∷ 0 ∷ 0 ∷ [])

abbrev table190 : List ℕ
table190 = bytes (2 ∷ 1 ∷ 1 ∷ 0 ∷ 0 ∷ 2 ∷ 0 ∷ 0 ∷ 0 ∷ 1 ∷ 1 ∷ 0 ∷ 1 ∷ 1 ∷ 0 ∷ 0 ∷ [])

-- A well laid table that no run makes: n = 2, E = 1.
abbrev unmade2 : List Script
unmade2 = script table189 (accepted (line 0) 8 (0 ∷ 0 ∷ []) table189 ∷ refused (line 1) 8 15 ∷ refused (line 2) 8 15 ∷ refused (line 2) 8 15
    ∷ refused (line 3) 8 15 ∷ refused (line 4294967295) 8 15 ∷ accepted (failed 0) 16 (1 ∷ 0 ∷ 0 ∷ 0 ∷ []) table189
    ∷ accepted (failed 1) 16 (1 ∷ 0 ∷ 1 ∷ 1 ∷ []) table189 ∷ accepted (failed 2) 16 (1 ∷ 0 ∷ 2 ∷ 1 ∷ []) table189
    ∷ accepted (failed 3) 16 (1 ∷ 0 ∷ 3 ∷ 2 ∷ []) table189 ∷ refused (failed 4) 16 11 ∷ refused (failed 4294967295) 16 11
    ∷ accepted (step 1 checkpoint) 4 (1 ∷ []) table190 ∷ refused (step 0 checkpoint) 4 9 ∷ refused (step 0 checkpoint) 4 9 ∷ refused (step 1 (send 1)) 8 6
    ∷ refused (step 0 (send 1)) 8 9 ∷ refused (step 0 (send 1)) 8 9 ∷ refused (step 0 (send 1)) 8 9 ∷ refused (step 0 (receipt 1 2)) 16 7
    ∷ refused (step 1 (send 0)) 8 9 ∷ refused (step 1 (send 0)) 8 9 ∷ []) ∷ []

pub unmade2_agree : Agree unmade2
unfolding fresh_on step_on line_on failed_on resend_on layout decoded well_laid word put_word put_words failure_answer failure_line rounds round ones ones_in in_transit
unmade2_agree = refl

abbrev table191 : List ℕ
table191 = bytes (2 ∷ 2 ∷ 2 ∷ 0 ∷ 1 ∷ 3 ∷ 1 ∷ 1 ∷ 0 ∷ 4 ∷ 1 ∷ 1 ∷ 0 ∷ 1 ∷ 4 ∷ 0 ∷ 1 ∷ 4 ∷ 0 ∷ 0 ∷ 0 ∷ 0 ∷ 0 ∷ 0 ∷ [])

abbrev table192 : List ℕ
table192 = bytes (2 ∷ 2 ∷ 2 ∷ 0 ∷ 1 ∷ 3 ∷ 1 ∷ 1 ∷ 0 ∷ 4 ∷ 1 ∷ 1 ∷ 0 ∷ 2 ∷ 4 ∷ 0 ∷ 1 ∷ 4 ∷ 0 ∷ 0 ∷ 4 ∷ 0 ∷ 1 ∷ 0 ∷ [])

-- A well laid table that no run makes: n = 2, E = 2.
abbrev unmade3 : List Script
unmade3 = script table191 (accepted (line 0) 8 (0 ∷ 0 ∷ []) table191 ∷ refused (line 1) 8 15 ∷ refused (line 2) 8 15 ∷ refused (line 4) 8 15
    ∷ refused (line 5) 8 15 ∷ refused (line 4294967295) 8 15 ∷ accepted (failed 0) 16 (0 ∷ 1 ∷ 1 ∷ 1 ∷ []) table191
    ∷ accepted (failed 1) 16 (0 ∷ 1 ∷ 1 ∷ 1 ∷ []) table191 ∷ accepted (failed 2) 16 (0 ∷ 1 ∷ 3 ∷ 2 ∷ []) table191
    ∷ accepted (failed 3) 16 (0 ∷ 1 ∷ 3 ∷ 2 ∷ []) table191 ∷ refused (failed 4) 16 11 ∷ refused (failed 4294967295) 16 11 ∷ refused (step 0 (send 1)) 8 9
    ∷ refused (step 1 (receipt 0 1)) 72 4 ∷ accepted (step 1 (receipt 0 1)) 16 (0 ∷ 0 ∷ 1 ∷ 2 ∷ []) table192 ∷ refused (step 1 (send 0)) 0 4
    ∷ refused (step 0 (send 1)) 8 9 ∷ refused (step 0 checkpoint) 4 9 ∷ refused (step 1 (send 0)) 8 9 ∷ refused (step 1 (receipt 0 1)) 16 8
    ∷ refused (step 1 (send 1)) 0 4 ∷ refused (step 0 (send 1)) 8 9 ∷ []) ∷ []

pub unmade3_agree : Agree unmade3
unfolding fresh_on step_on line_on failed_on resend_on layout decoded well_laid word put_word put_words failure_answer failure_line rounds round ones ones_in in_transit
unmade3_agree = refl

abbrev table193 : List ℕ
table193 = bytes (2 ∷ 3 ∷ 3 ∷ 1 ∷ 0 ∷ 4 ∷ 1 ∷ 3 ∷ 0 ∷ 1 ∷ 1 ∷ 0 ∷ 0 ∷ 4 ∷ 1 ∷ 1 ∷ 0 ∷ 2 ∷ 1 ∷ 0 ∷ 1 ∷ 1 ∷ 0 ∷ 0 ∷ 4 ∷ 0 ∷ 1 ∷ 0 ∷ 0 ∷ 0 ∷ 0 ∷ 0 ∷ [])

abbrev table194 : List ℕ
table194 = bytes (2 ∷ 3 ∷ 3 ∷ 1 ∷ 0 ∷ 4 ∷ 1 ∷ 3 ∷ 0 ∷ 1 ∷ 1 ∷ 0 ∷ 0 ∷ 4 ∷ 1 ∷ 1 ∷ 0 ∷ 3 ∷ 1 ∷ 1 ∷ 1 ∷ 1 ∷ 0 ∷ 0 ∷ 4 ∷ 0 ∷ 1 ∷ 0 ∷ 3 ∷ 0 ∷ 1 ∷ 1 ∷ [])

-- A well laid table that no run makes: n = 2, E = 3.
abbrev unmade4 : List Script
unmade4 = script table193 (accepted (line 0) 8 (0 ∷ 0 ∷ []) table193 ∷ accepted (line 1) 8 (2 ∷ 1 ∷ []) table193 ∷ refused (line 2) 8 15
    ∷ refused (line 6) 8 15 ∷ refused (line 7) 8 15 ∷ refused (line 4294967295) 8 15 ∷ accepted (failed 0) 16 (0 ∷ 1 ∷ 3 ∷ 2 ∷ []) table193
    ∷ accepted (failed 1) 16 (0 ∷ 1 ∷ 3 ∷ 2 ∷ []) table193 ∷ accepted (failed 2) 16 (0 ∷ 1 ∷ 3 ∷ 2 ∷ []) table193
    ∷ accepted (failed 3) 16 (0 ∷ 1 ∷ 3 ∷ 2 ∷ []) table193 ∷ refused (failed 4) 16 11 ∷ refused (failed 4294967295) 16 11
    ∷ accepted (step 1 (send 0)) 8 (1 ∷ 1 ∷ []) table194 ∷ refused (step 0 (receipt 1 1)) 16 8 ∷ refused (step 0 checkpoint) 4 9
    ∷ refused (step 1 (send 1)) 8 6 ∷ refused (step 1 checkpoint) 4 9 ∷ refused (step 0 (receipt 1 1)) 16 8 ∷ refused (step 1 checkpoint) 4 9
    ∷ refused (step 0 (receipt 1 2)) 16 7 ∷ refused (step 0 (send 1)) 8 9 ∷ refused (step 0 (receipt 1 1)) 16 8 ∷ []) ∷ []

pub unmade4_agree : Agree unmade4
unfolding fresh_on step_on line_on failed_on resend_on layout decoded well_laid word put_word put_words failure_answer failure_line rounds round ones ones_in in_transit
unmade4_agree = refl

abbrev table195 : List ℕ
table195 = bytes (2 ∷ 4 ∷ 4 ∷ 8 ∷ 3 ∷ 3 ∷ 1 ∷ 1 ∷ 0 ∷ 1 ∷ 8 ∷ 0 ∷ 0 ∷ 3 ∷ 1 ∷ 2 ∷ 8 ∷ 3 ∷ 1 ∷ 3 ∷ 8 ∷ 3 ∷ 8 ∷ 0 ∷ 2 ∷ 8 ∷ 0 ∷ 0 ∷ 4 ∷ 0 ∷ 2 ∷ 8 ∷ 4 ∷ 0 ∷ 3
    ∷ 0 ∷ 0 ∷ 0 ∷ 0 ∷ 0 ∷ [])

abbrev table196 : List ℕ
table196 = bytes (2 ∷ 4 ∷ 4 ∷ 8 ∷ 3 ∷ 3 ∷ 1 ∷ 1 ∷ 0 ∷ 1 ∷ 8 ∷ 0 ∷ 0 ∷ 3 ∷ 1 ∷ 2 ∷ 8 ∷ 3 ∷ 1 ∷ 3 ∷ 8 ∷ 4 ∷ 8 ∷ 1 ∷ 2 ∷ 8 ∷ 0 ∷ 0 ∷ 4 ∷ 0 ∷ 2 ∷ 8 ∷ 4 ∷ 0 ∷ 3
    ∷ 0 ∷ 3 ∷ 0 ∷ 1 ∷ 8 ∷ [])

-- A well laid table that no run makes: n = 2, E = 4.
abbrev unmade5 : List Script
unmade5 = script table195 (accepted (line 0) 8 (0 ∷ 0 ∷ []) table195 ∷ accepted (line 1) 8 (2 ∷ 1 ∷ []) table195 ∷ accepted (line 2) 8 (2 ∷ 1 ∷ []) table195
    ∷ accepted (line 8) 8 (2 ∷ 1 ∷ []) table195 ∷ refused (line 9) 8 15 ∷ refused (line 4294967295) 8 15
    ∷ accepted (failed 0) 16 (4 ∷ 3 ∷ 0 ∷ 0 ∷ []) table195 ∷ accepted (failed 1) 16 (2 ∷ 1 ∷ 3 ∷ 2 ∷ []) table195
    ∷ accepted (failed 2) 16 (4 ∷ 1 ∷ 2 ∷ 1 ∷ []) table195 ∷ accepted (failed 3) 16 (2 ∷ 1 ∷ 3 ∷ 2 ∷ []) table195 ∷ refused (failed 4) 16 11
    ∷ refused (failed 4294967295) 16 11 ∷ refused (step 0 (send 1)) 8 9 ∷ accepted (step 1 (send 0)) 8 (1 ∷ 8 ∷ []) table196 ∷ refused (step 1 (send 0)) 8 9
    ∷ refused (step 1 (receipt 0 1)) 16 9 ∷ refused (step 1 (receipt 0 3)) 16 8 ∷ refused (step 0 (receipt 1 3)) 16 7 ∷ refused (step 1 checkpoint) 4 9
    ∷ refused (step 1 checkpoint) 4 9 ∷ refused (step 1 (send 0)) 8 9 ∷ refused (step 0 (send 1)) 8 9 ∷ []) ∷ []

pub unmade5_agree : Agree unmade5
unfolding fresh_on step_on line_on failed_on resend_on layout decoded well_laid word put_word put_words failure_answer failure_line rounds round ones ones_in in_transit
unmade5_agree = refl

abbrev table197 : List ℕ
table197 = bytes (2 ∷ 5 ∷ 4 ∷ 0 ∷ 1 ∷ 4 ∷ 1 ∷ 5 ∷ 0 ∷ 3 ∷ 1 ∷ 1 ∷ 0 ∷ 2 ∷ 0 ∷ 0 ∷ 0 ∷ 4 ∷ 1 ∷ 2 ∷ 0 ∷ 0 ∷ 0 ∷ 0 ∷ 0 ∷ 4 ∷ 0 ∷ 4 ∷ 3 ∷ 0 ∷ 1 ∷ 0 ∷ 3 ∷ 0 ∷ 2
    ∷ 0 ∷ 3 ∷ 0 ∷ 3 ∷ 0 ∷ 3 ∷ 0 ∷ 4 ∷ 0 ∷ 0 ∷ 0 ∷ 0 ∷ 0 ∷ [])

abbrev table198 : List ℕ
table198 = bytes (2 ∷ 5 ∷ 4 ∷ 0 ∷ 1 ∷ 4 ∷ 1 ∷ 5 ∷ 0 ∷ 3 ∷ 1 ∷ 1 ∷ 0 ∷ 2 ∷ 0 ∷ 0 ∷ 0 ∷ 4 ∷ 1 ∷ 2 ∷ 0 ∷ 0 ∷ 0 ∷ 0 ∷ 0 ∷ 5 ∷ 1 ∷ 4 ∷ 3 ∷ 0 ∷ 1 ∷ 0 ∷ 3 ∷ 0 ∷ 2
    ∷ 0 ∷ 3 ∷ 0 ∷ 3 ∷ 0 ∷ 3 ∷ 0 ∷ 4 ∷ 0 ∷ 1 ∷ 1 ∷ 0 ∷ 0 ∷ [])

abbrev table199 : List ℕ
table199 = bytes (2 ∷ 5 ∷ 5 ∷ 0 ∷ 1 ∷ 4 ∷ 1 ∷ 5 ∷ 0 ∷ 3 ∷ 1 ∷ 1 ∷ 0 ∷ 2 ∷ 0 ∷ 0 ∷ 0 ∷ 4 ∷ 1 ∷ 2 ∷ 0 ∷ 4 ∷ 1 ∷ 4 ∷ 0 ∷ 5 ∷ 1 ∷ 4 ∷ 3 ∷ 0 ∷ 1 ∷ 0 ∷ 3 ∷ 0 ∷ 2
    ∷ 0 ∷ 3 ∷ 0 ∷ 3 ∷ 0 ∷ 3 ∷ 0 ∷ 4 ∷ 0 ∷ 1 ∷ 1 ∷ 0 ∷ 0 ∷ [])

-- A well laid table that no run makes: n = 2, E = 5.
abbrev unmade6 : List Script
unmade6 = script table197 (accepted (line 0) 8 (0 ∷ 0 ∷ []) table197 ∷ refused (line 1) 8 15 ∷ refused (line 2) 8 15 ∷ refused (line 10) 8 15
    ∷ refused (line 11) 8 15 ∷ refused (line 4294967295) 8 15 ∷ accepted (failed 0) 16 (0 ∷ 4 ∷ 1 ∷ 1 ∷ []) table197
    ∷ accepted (failed 1) 16 (0 ∷ 4 ∷ 1 ∷ 1 ∷ []) table197 ∷ accepted (failed 2) 16 (0 ∷ 0 ∷ 3 ∷ 2 ∷ []) table197
    ∷ accepted (failed 3) 16 (0 ∷ 0 ∷ 3 ∷ 2 ∷ []) table197 ∷ refused (failed 4) 16 11 ∷ refused (failed 4294967295) 16 11
    ∷ refused (step 0 (receipt 1 2)) 16 8 ∷ refused (step 0 (receipt 1 2)) 16 8 ∷ refused (step 0 (send 0)) 8 6
    ∷ accepted (step 1 checkpoint) 4 (1 ∷ []) table198 ∷ accepted (step 0 (receipt 1 4)) 16 (0 ∷ 0 ∷ 4 ∷ 5 ∷ []) table199 ∷ refused (step 1 checkpoint) 4 9
    ∷ refused (step 1 (receipt 0 1)) 16 9 ∷ refused (step 1 (send 0)) 8 9 ∷ refused (step 0 checkpoint) 4 9 ∷ refused (step 0 (receipt 1 1)) 16 9 ∷ []) ∷ []

pub unmade6_agree : Agree unmade6
unfolding fresh_on step_on line_on failed_on resend_on layout decoded well_laid word put_word put_words failure_answer failure_line rounds round ones ones_in in_transit
unmade6_agree = refl

abbrev table200 : List ℕ
table200 = bytes (2 ∷ 6 ∷ 5 ∷ 9 ∷ 2 ∷ 1 ∷ 0 ∷ 0 ∷ 0 ∷ 2 ∷ 7 ∷ 0 ∷ 0 ∷ 1 ∷ 9 ∷ 0 ∷ 0 ∷ 3 ∷ 1 ∷ 1 ∷ 9 ∷ 3 ∷ 1 ∷ 2 ∷ 9 ∷ 0 ∷ 0 ∷ 0 ∷ 0 ∷ 5 ∷ 0 ∷ 3 ∷ 4 ∷ 0 ∷ 2
    ∷ 0 ∷ 3 ∷ 0 ∷ 1 ∷ 0 ∷ 4 ∷ 0 ∷ 4 ∷ 0 ∷ 3 ∷ 0 ∷ 2 ∷ 0 ∷ 3 ∷ 0 ∷ 3 ∷ 0 ∷ 0 ∷ 0 ∷ 0 ∷ 0 ∷ [])

abbrev table201 : List ℕ
table201 = bytes (2 ∷ 6 ∷ 6 ∷ 9 ∷ 2 ∷ 1 ∷ 0 ∷ 0 ∷ 0 ∷ 2 ∷ 7 ∷ 0 ∷ 0 ∷ 1 ∷ 9 ∷ 0 ∷ 0 ∷ 3 ∷ 1 ∷ 1 ∷ 9 ∷ 3 ∷ 1 ∷ 2 ∷ 9 ∷ 4 ∷ 1 ∷ 3 ∷ 0 ∷ 5 ∷ 0 ∷ 3 ∷ 4 ∷ 0 ∷ 2
    ∷ 0 ∷ 3 ∷ 0 ∷ 1 ∷ 0 ∷ 4 ∷ 0 ∷ 4 ∷ 0 ∷ 3 ∷ 0 ∷ 2 ∷ 0 ∷ 3 ∷ 0 ∷ 3 ∷ 0 ∷ 0 ∷ 0 ∷ 0 ∷ 0 ∷ [])

abbrev table202 : List ℕ
table202 = bytes (2 ∷ 6 ∷ 6 ∷ 9 ∷ 2 ∷ 1 ∷ 0 ∷ 0 ∷ 0 ∷ 2 ∷ 7 ∷ 0 ∷ 0 ∷ 1 ∷ 9 ∷ 0 ∷ 0 ∷ 3 ∷ 1 ∷ 1 ∷ 9 ∷ 3 ∷ 1 ∷ 2 ∷ 9 ∷ 4 ∷ 1 ∷ 3 ∷ 0 ∷ 6 ∷ 0 ∷ 4 ∷ 4 ∷ 0 ∷ 2
    ∷ 0 ∷ 3 ∷ 0 ∷ 1 ∷ 0 ∷ 4 ∷ 0 ∷ 4 ∷ 0 ∷ 3 ∷ 0 ∷ 2 ∷ 0 ∷ 3 ∷ 0 ∷ 3 ∷ 0 ∷ 3 ∷ 0 ∷ 4 ∷ 0 ∷ [])

-- A well laid table that no run makes: n = 2, E = 6.
abbrev unmade7 : List Script
unmade7 = script table200 (accepted (line 0) 8 (0 ∷ 0 ∷ []) table200 ∷ refused (line 1) 8 15 ∷ refused (line 2) 8 15 ∷ refused (line 12) 8 15
    ∷ refused (line 13) 8 15 ∷ refused (line 4294967295) 8 15 ∷ accepted (failed 0) 16 (5 ∷ 0 ∷ 2 ∷ 1 ∷ []) table200
    ∷ accepted (failed 1) 16 (3 ∷ 0 ∷ 3 ∷ 2 ∷ []) table200 ∷ accepted (failed 2) 16 (5 ∷ 0 ∷ 2 ∷ 1 ∷ []) table200
    ∷ accepted (failed 3) 16 (3 ∷ 0 ∷ 3 ∷ 2 ∷ []) table200 ∷ refused (failed 4) 16 11 ∷ refused (failed 4294967295) 16 11
    ∷ refused (step 1 (receipt 0 1)) 16 9 ∷ accepted (step 0 (receipt 1 3)) 16 (0 ∷ 0 ∷ 5 ∷ 6 ∷ []) table201 ∷ refused (step 1 (receipt 0 2)) 16 8
    ∷ refused (step 0 (send 1)) 8 9 ∷ refused (step 1 (receipt 0 5)) 16 7 ∷ refused (step 1 (receipt 0 2)) 16 8 ∷ refused (step 1 (receipt 0 1)) 16 9
    ∷ accepted (step 1 (send 0)) 8 (4 ∷ 0 ∷ []) table202 ∷ refused (step 0 (receipt 1 1)) 16 9 ∷ refused (step 1 checkpoint) 4 9 ∷ []) ∷ []

pub unmade7_agree : Agree unmade7
unfolding fresh_on step_on line_on failed_on resend_on layout decoded well_laid word put_word put_words failure_answer failure_line rounds round ones ones_in in_transit
unmade7_agree = refl

abbrev table203 : List ℕ
table203 = bytes (3 ∷ 2 ∷ 0 ∷ 0 ∷ 0 ∷ 0 ∷ 0 ∷ 0 ∷ 0 ∷ 0 ∷ 0 ∷ 0 ∷ 0 ∷ 0 ∷ 0 ∷ 0 ∷ 0 ∷ 0 ∷ 0 ∷ 0 ∷ 0 ∷ 0 ∷ 0 ∷ 0 ∷ 1 ∷ 0 ∷ 0 ∷ 1 ∷ 0 ∷ 0 ∷ 0 ∷ 0 ∷ 0 ∷ 0 ∷ 0
    ∷ [])

abbrev table204 : List ℕ
table204 = bytes (3 ∷ 2 ∷ 1 ∷ 0 ∷ 1 ∷ 3 ∷ 1 ∷ 1 ∷ 0 ∷ 0 ∷ 0 ∷ 0 ∷ 0 ∷ 0 ∷ 0 ∷ 0 ∷ 0 ∷ 0 ∷ 0 ∷ 0 ∷ 0 ∷ 0 ∷ 0 ∷ 0 ∷ 1 ∷ 0 ∷ 0 ∷ 1 ∷ 0 ∷ 0 ∷ 0 ∷ 0 ∷ 0 ∷ 0 ∷ 0
    ∷ [])

abbrev table205 : List ℕ
table205 = bytes (3 ∷ 2 ∷ 1 ∷ 0 ∷ 1 ∷ 3 ∷ 1 ∷ 1 ∷ 0 ∷ 0 ∷ 0 ∷ 0 ∷ 0 ∷ 1 ∷ 0 ∷ 0 ∷ 4 ∷ 0 ∷ 1 ∷ 0 ∷ 0 ∷ 0 ∷ 0 ∷ 0 ∷ 1 ∷ 0 ∷ 0 ∷ 1 ∷ 0 ∷ 0 ∷ 0 ∷ 0 ∷ 0 ∷ 0 ∷ 0
    ∷ [])

abbrev table206 : List ℕ
table206 = bytes (3 ∷ 2 ∷ 1 ∷ 0 ∷ 1 ∷ 3 ∷ 1 ∷ 1 ∷ 0 ∷ 0 ∷ 0 ∷ 0 ∷ 0 ∷ 2 ∷ 0 ∷ 1 ∷ 4 ∷ 0 ∷ 1 ∷ 0 ∷ 3 ∷ 0 ∷ 1 ∷ 0 ∷ 1 ∷ 0 ∷ 0 ∷ 1 ∷ 0 ∷ 0 ∷ 0 ∷ 0 ∷ 0 ∷ 0 ∷ 0
    ∷ [])

abbrev table207 : List ℕ
table207 = bytes (3 ∷ 2 ∷ 2 ∷ 0 ∷ 1 ∷ 3 ∷ 1 ∷ 1 ∷ 0 ∷ 4 ∷ 1 ∷ 1 ∷ 0 ∷ 2 ∷ 0 ∷ 1 ∷ 4 ∷ 0 ∷ 1 ∷ 0 ∷ 3 ∷ 0 ∷ 1 ∷ 0 ∷ 1 ∷ 0 ∷ 0 ∷ 1 ∷ 0 ∷ 0 ∷ 0 ∷ 0 ∷ 0 ∷ 0 ∷ 0
    ∷ [])

abbrev table208 : List ℕ
table208 = bytes (3 ∷ 2 ∷ 2 ∷ 0 ∷ 1 ∷ 3 ∷ 1 ∷ 1 ∷ 0 ∷ 4 ∷ 1 ∷ 1 ∷ 0 ∷ 2 ∷ 0 ∷ 1 ∷ 4 ∷ 0 ∷ 1 ∷ 0 ∷ 3 ∷ 0 ∷ 1 ∷ 0 ∷ 2 ∷ 1 ∷ 0 ∷ 1 ∷ 0 ∷ 0 ∷ 0 ∷ 1 ∷ 1 ∷ 0 ∷ 0
    ∷ [])

-- A well laid table that no run makes: n = 3, E = 2.
abbrev unmade8 : List Script
unmade8 = script table203 (accepted (line 0) 12 (0 ∷ 0 ∷ 0 ∷ []) table203 ∷ refused (line 1) 12 15 ∷ refused (line 2) 12 15 ∷ refused (line 6) 12 15
    ∷ refused (line 7) 12 15 ∷ refused (line 4294967295) 12 15 ∷ accepted (failed 0) 20 (0 ∷ 0 ∷ 1 ∷ 0 ∷ 0 ∷ []) table203
    ∷ accepted (failed 1) 20 (0 ∷ 0 ∷ 1 ∷ 1 ∷ 1 ∷ []) table203 ∷ accepted (failed 2) 20 (0 ∷ 0 ∷ 1 ∷ 2 ∷ 1 ∷ []) table203
    ∷ accepted (failed 3) 20 (0 ∷ 0 ∷ 1 ∷ 3 ∷ 2 ∷ []) table203 ∷ accepted (failed 4) 20 (0 ∷ 0 ∷ 1 ∷ 4 ∷ 1 ∷ []) table203
    ∷ accepted (failed 5) 20 (0 ∷ 0 ∷ 1 ∷ 5 ∷ 2 ∷ []) table203 ∷ accepted (failed 6) 20 (0 ∷ 0 ∷ 1 ∷ 6 ∷ 2 ∷ []) table203
    ∷ accepted (failed 7) 20 (0 ∷ 0 ∷ 1 ∷ 7 ∷ 3 ∷ []) table203 ∷ refused (failed 8) 20 11 ∷ refused (failed 4294967295) 20 11
    ∷ accepted (step 0 (send 1)) 8 (1 ∷ 0 ∷ []) table204 ∷ accepted (step 1 (receipt 0 1)) 16 (0 ∷ 0 ∷ 1 ∷ 1 ∷ []) table205
    ∷ refused (step 1 (receipt 0 1)) 16 8 ∷ accepted (step 1 (send 0)) 8 (1 ∷ 0 ∷ []) table206 ∷ refused (step 1 (receipt 0 0)) 16 7
    ∷ refused (step 1 (receipt 0 1)) 0 4 ∷ accepted (step 0 (receipt 1 1)) 16 (0 ∷ 0 ∷ 2 ∷ 2 ∷ []) table207 ∷ refused (step 1 checkpoint) 4 9
    ∷ accepted (step 2 checkpoint) 4 (1 ∷ []) table208 ∷ refused (step 2 checkpoint) 4 9 ∷ []) ∷ []

pub unmade8_agree : Agree unmade8
unfolding fresh_on step_on line_on failed_on resend_on layout decoded well_laid word put_word put_words failure_answer failure_line rounds round ones ones_in in_transit
unmade8_agree = refl

abbrev table209 : List ℕ
table209 = bytes (3 ∷ 3 ∷ 1 ∷ 0 ∷ 0 ∷ 4 ∷ 1 ∷ 1 ∷ 0 ∷ 0 ∷ 0 ∷ 0 ∷ 0 ∷ 0 ∷ 0 ∷ 0 ∷ 0 ∷ 3 ∷ 8 ∷ 0 ∷ 1 ∷ 0 ∷ 0 ∷ 0 ∷ 2 ∷ 8 ∷ 0 ∷ 0 ∷ 2 ∷ 8 ∷ 0 ∷ 0 ∷ 3 ∷ 1 ∷ 0
    ∷ 1 ∷ 0 ∷ 0 ∷ 0 ∷ 4 ∷ 1 ∷ 3 ∷ 0 ∷ 2 ∷ 1 ∷ 0 ∷ 0 ∷ [])

abbrev table210 : List ℕ
table210 = bytes (3 ∷ 3 ∷ 2 ∷ 0 ∷ 1 ∷ 4 ∷ 1 ∷ 1 ∷ 0 ∷ 3 ∷ 2 ∷ 1 ∷ 0 ∷ 0 ∷ 0 ∷ 0 ∷ 0 ∷ 3 ∷ 8 ∷ 0 ∷ 1 ∷ 0 ∷ 0 ∷ 0 ∷ 2 ∷ 8 ∷ 0 ∷ 0 ∷ 2 ∷ 8 ∷ 0 ∷ 0 ∷ 3 ∷ 1 ∷ 0
    ∷ 1 ∷ 0 ∷ 0 ∷ 0 ∷ 4 ∷ 1 ∷ 3 ∷ 0 ∷ 2 ∷ 1 ∷ 0 ∷ 0 ∷ [])

-- A well laid table that no run makes: n = 3, E = 3.
abbrev unmade9 : List Script
unmade9 = script table209 (accepted (line 0) 12 (0 ∷ 0 ∷ 0 ∷ []) table209 ∷ refused (line 1) 12 15 ∷ refused (line 2) 12 15 ∷ refused (line 9) 12 15
    ∷ refused (line 10) 12 15 ∷ refused (line 4294967295) 12 15 ∷ accepted (failed 0) 20 (0 ∷ 3 ∷ 1 ∷ 5 ∷ 2 ∷ []) table209
    ∷ accepted (failed 1) 20 (0 ∷ 3 ∷ 1 ∷ 5 ∷ 2 ∷ []) table209 ∷ accepted (failed 2) 20 (0 ∷ 3 ∷ 1 ∷ 7 ∷ 3 ∷ []) table209
    ∷ accepted (failed 3) 20 (0 ∷ 3 ∷ 1 ∷ 7 ∷ 3 ∷ []) table209 ∷ accepted (failed 4) 20 (0 ∷ 3 ∷ 1 ∷ 5 ∷ 2 ∷ []) table209
    ∷ accepted (failed 5) 20 (0 ∷ 3 ∷ 1 ∷ 5 ∷ 2 ∷ []) table209 ∷ accepted (failed 6) 20 (0 ∷ 3 ∷ 1 ∷ 7 ∷ 3 ∷ []) table209
    ∷ accepted (failed 7) 20 (0 ∷ 3 ∷ 1 ∷ 7 ∷ 3 ∷ []) table209 ∷ refused (failed 8) 20 11 ∷ refused (failed 4294967295) 20 11 ∷ refused (step 2 (send 0)) 8 9
    ∷ refused (step 2 checkpoint) 4 9 ∷ accepted (step 0 (send 2)) 8 (1 ∷ 0 ∷ []) table210 ∷ refused (step 2 (send 1)) 8 9 ∷ refused (step 1 (send 0)) 4 4
    ∷ refused (step 2 (receipt 0 1)) 7 4 ∷ refused (step 2 (receipt 0 1)) 16 9 ∷ refused (step 2 (receipt 0 1)) 16 9 ∷ refused (step 1 (send 2)) 8 9
    ∷ refused (step 1 (receipt 0 4)) 16 7 ∷ []) ∷ []

pub unmade9_agree : Agree unmade9
unfolding fresh_on step_on line_on failed_on resend_on layout decoded well_laid word put_word put_words failure_answer failure_line rounds round ones ones_in in_transit
unmade9_agree = refl

abbrev table211 : List ℕ
table211 = bytes (3 ∷ 4 ∷ 3 ∷ 12 ∷ 2 ∷ 1 ∷ 12 ∷ 0 ∷ 0 ∷ 3 ∷ 2 ∷ 1 ∷ 12 ∷ 3 ∷ 1 ∷ 2 ∷ 12 ∷ 0 ∷ 0 ∷ 0 ∷ 0 ∷ 4 ∷ 5 ∷ 2 ∷ 1 ∷ 10 ∷ 0 ∷ 0 ∷ 3 ∷ 2 ∷ 1 ∷ 10 ∷ 3 ∷ 0
    ∷ 2 ∷ 10 ∷ 2 ∷ 5 ∷ 0 ∷ 0 ∷ 3 ∷ 0 ∷ 2 ∷ 3 ∷ 1 ∷ 1 ∷ 0 ∷ 4 ∷ 0 ∷ 3 ∷ 0 ∷ 3 ∷ 1 ∷ 2 ∷ 0 ∷ 0 ∷ 0 ∷ 0 ∷ 0 ∷ [])

abbrev table212 : List ℕ
table212 = bytes (3 ∷ 4 ∷ 3 ∷ 12 ∷ 2 ∷ 1 ∷ 12 ∷ 0 ∷ 0 ∷ 3 ∷ 2 ∷ 1 ∷ 12 ∷ 3 ∷ 1 ∷ 2 ∷ 12 ∷ 0 ∷ 0 ∷ 0 ∷ 0 ∷ 4 ∷ 5 ∷ 2 ∷ 1 ∷ 10 ∷ 0 ∷ 0 ∷ 3 ∷ 2 ∷ 1 ∷ 10 ∷ 3 ∷ 0
    ∷ 2 ∷ 10 ∷ 2 ∷ 5 ∷ 0 ∷ 0 ∷ 4 ∷ 1 ∷ 2 ∷ 3 ∷ 1 ∷ 1 ∷ 0 ∷ 4 ∷ 0 ∷ 3 ∷ 0 ∷ 3 ∷ 1 ∷ 2 ∷ 0 ∷ 1 ∷ 1 ∷ 0 ∷ 0 ∷ [])

abbrev table213 : List ℕ
table213 = bytes (3 ∷ 4 ∷ 4 ∷ 12 ∷ 3 ∷ 1 ∷ 12 ∷ 0 ∷ 0 ∷ 3 ∷ 2 ∷ 1 ∷ 12 ∷ 3 ∷ 1 ∷ 2 ∷ 12 ∷ 3 ∷ 2 ∷ 3 ∷ 12 ∷ 4 ∷ 5 ∷ 2 ∷ 1 ∷ 10 ∷ 0 ∷ 0 ∷ 3 ∷ 2 ∷ 1 ∷ 10 ∷ 3 ∷ 0
    ∷ 2 ∷ 10 ∷ 2 ∷ 5 ∷ 0 ∷ 0 ∷ 4 ∷ 1 ∷ 2 ∷ 3 ∷ 1 ∷ 1 ∷ 0 ∷ 4 ∷ 0 ∷ 3 ∷ 0 ∷ 3 ∷ 1 ∷ 2 ∷ 0 ∷ 1 ∷ 1 ∷ 0 ∷ 0 ∷ [])

-- A well laid table that no run makes: n = 3, E = 4.
abbrev unmade10 : List Script
unmade10 = script table211 (accepted (line 0) 12 (0 ∷ 0 ∷ 0 ∷ []) table211 ∷ refused (line 1) 12 15 ∷ refused (line 2) 12 15 ∷ refused (line 12) 12 15
    ∷ refused (line 13) 12 15 ∷ refused (line 4294967295) 12 15 ∷ accepted (failed 0) 20 (3 ∷ 4 ∷ 0 ∷ 4 ∷ 1 ∷ []) table211
    ∷ accepted (failed 1) 20 (1 ∷ 4 ∷ 0 ∷ 5 ∷ 2 ∷ []) table211 ∷ accepted (failed 2) 20 (3 ∷ 4 ∷ 0 ∷ 6 ∷ 2 ∷ []) table211
    ∷ accepted (failed 3) 20 (1 ∷ 4 ∷ 0 ∷ 7 ∷ 3 ∷ []) table211 ∷ accepted (failed 4) 20 (3 ∷ 4 ∷ 0 ∷ 4 ∷ 1 ∷ []) table211
    ∷ accepted (failed 5) 20 (1 ∷ 4 ∷ 0 ∷ 5 ∷ 2 ∷ []) table211 ∷ accepted (failed 6) 20 (3 ∷ 4 ∷ 0 ∷ 6 ∷ 2 ∷ []) table211
    ∷ accepted (failed 7) 20 (1 ∷ 4 ∷ 0 ∷ 7 ∷ 3 ∷ []) table211 ∷ refused (failed 8) 20 11 ∷ refused (failed 4294967295) 20 11
    ∷ accepted (step 2 checkpoint) 4 (1 ∷ []) table212 ∷ refused (step 1 checkpoint) 4 9 ∷ refused (step 0 (receipt 2 4)) 16 7
    ∷ refused (step 2 (receipt 1 1)) 16 9 ∷ refused (step 2 (receipt 0 1)) 16 9 ∷ refused (step 1 checkpoint) 4 9
    ∷ accepted (step 0 (send 2)) 8 (3 ∷ 12 ∷ []) table213 ∷ refused (step 1 (receipt 2 1)) 0 4 ∷ refused (step 1 (receipt 0 2)) 16 9
    ∷ refused (step 1 checkpoint) 4 9 ∷ []) ∷ []

pub unmade10_agree : Agree unmade10
unfolding fresh_on step_on line_on failed_on resend_on layout decoded well_laid word put_word put_words failure_answer failure_line rounds round ones ones_in in_transit
unmade10_agree = refl

abbrev table214 : List ℕ
table214 = bytes (3 ∷ 4 ∷ 3 ∷ 1 ∷ 2 ∷ 3 ∷ 1 ∷ 1 ∷ 0 ∷ 3 ∷ 1 ∷ 2 ∷ 0 ∷ 1 ∷ 1 ∷ 0 ∷ 0 ∷ 0 ∷ 0 ∷ 0 ∷ 0 ∷ 4 ∷ 0 ∷ 3 ∷ 3 ∷ 0 ∷ 1 ∷ 0 ∷ 4 ∷ 0 ∷ 4 ∷ 0 ∷ 3 ∷ 2 ∷ 2
    ∷ 0 ∷ 3 ∷ 2 ∷ 3 ∷ 0 ∷ 1 ∷ 12 ∷ 0 ∷ 2 ∷ 12 ∷ 0 ∷ 0 ∷ 0 ∷ 0 ∷ 0 ∷ 0 ∷ 0 ∷ 0 ∷ 0 ∷ 0 ∷ 0 ∷ 0 ∷ 0 ∷ 0 ∷ [])

abbrev table215 : List ℕ
table215 = bytes (3 ∷ 4 ∷ 3 ∷ 1 ∷ 2 ∷ 3 ∷ 1 ∷ 1 ∷ 0 ∷ 3 ∷ 1 ∷ 2 ∷ 0 ∷ 1 ∷ 1 ∷ 0 ∷ 0 ∷ 0 ∷ 0 ∷ 0 ∷ 0 ∷ 4 ∷ 0 ∷ 3 ∷ 3 ∷ 0 ∷ 1 ∷ 0 ∷ 4 ∷ 0 ∷ 4 ∷ 0 ∷ 3 ∷ 2 ∷ 2
    ∷ 0 ∷ 3 ∷ 2 ∷ 3 ∷ 0 ∷ 2 ∷ 12 ∷ 1 ∷ 2 ∷ 12 ∷ 0 ∷ 0 ∷ 3 ∷ 1 ∷ 1 ∷ 12 ∷ 0 ∷ 0 ∷ 0 ∷ 0 ∷ 0 ∷ 0 ∷ 0 ∷ 0 ∷ [])

abbrev table216 : List ℕ
table216 = bytes (3 ∷ 4 ∷ 3 ∷ 1 ∷ 2 ∷ 3 ∷ 1 ∷ 1 ∷ 0 ∷ 3 ∷ 1 ∷ 2 ∷ 0 ∷ 1 ∷ 1 ∷ 0 ∷ 0 ∷ 0 ∷ 0 ∷ 0 ∷ 0 ∷ 4 ∷ 0 ∷ 3 ∷ 3 ∷ 0 ∷ 1 ∷ 0 ∷ 4 ∷ 0 ∷ 4 ∷ 0 ∷ 3 ∷ 2 ∷ 2
    ∷ 0 ∷ 3 ∷ 2 ∷ 3 ∷ 0 ∷ 3 ∷ 12 ∷ 1 ∷ 2 ∷ 12 ∷ 0 ∷ 0 ∷ 3 ∷ 1 ∷ 1 ∷ 12 ∷ 4 ∷ 1 ∷ 2 ∷ 0 ∷ 0 ∷ 0 ∷ 0 ∷ 0 ∷ [])

abbrev table217 : List ℕ
table217 = bytes (3 ∷ 4 ∷ 3 ∷ 1 ∷ 2 ∷ 3 ∷ 1 ∷ 1 ∷ 0 ∷ 3 ∷ 1 ∷ 2 ∷ 0 ∷ 1 ∷ 1 ∷ 0 ∷ 0 ∷ 0 ∷ 0 ∷ 0 ∷ 0 ∷ 4 ∷ 0 ∷ 3 ∷ 3 ∷ 0 ∷ 1 ∷ 0 ∷ 4 ∷ 0 ∷ 4 ∷ 0 ∷ 3 ∷ 2 ∷ 2
    ∷ 0 ∷ 3 ∷ 2 ∷ 3 ∷ 0 ∷ 4 ∷ 12 ∷ 1 ∷ 2 ∷ 12 ∷ 0 ∷ 0 ∷ 3 ∷ 1 ∷ 1 ∷ 12 ∷ 4 ∷ 1 ∷ 2 ∷ 0 ∷ 4 ∷ 1 ∷ 3 ∷ 0 ∷ [])

-- A well laid table that no run makes: n = 3, E = 4.
abbrev unmade11 : List Script
unmade11 = script table214 (accepted (line 0) 12 (0 ∷ 0 ∷ 0 ∷ []) table214 ∷ refused (line 1) 12 15 ∷ refused (line 2) 12 15 ∷ refused (line 12) 12 15
    ∷ refused (line 13) 12 15 ∷ refused (line 4294967295) 12 15 ∷ accepted (failed 0) 20 (3 ∷ 0 ∷ 1 ∷ 2 ∷ 1 ∷ []) table214
    ∷ accepted (failed 1) 20 (3 ∷ 0 ∷ 1 ∷ 3 ∷ 2 ∷ []) table214 ∷ accepted (failed 2) 20 (3 ∷ 0 ∷ 1 ∷ 2 ∷ 1 ∷ []) table214
    ∷ accepted (failed 3) 20 (3 ∷ 0 ∷ 1 ∷ 3 ∷ 2 ∷ []) table214 ∷ accepted (failed 4) 20 (3 ∷ 0 ∷ 1 ∷ 6 ∷ 2 ∷ []) table214
    ∷ accepted (failed 5) 20 (3 ∷ 0 ∷ 1 ∷ 7 ∷ 3 ∷ []) table214 ∷ accepted (failed 6) 20 (3 ∷ 0 ∷ 1 ∷ 6 ∷ 2 ∷ []) table214
    ∷ accepted (failed 7) 20 (3 ∷ 0 ∷ 1 ∷ 7 ∷ 3 ∷ []) table214 ∷ refused (failed 8) 20 11 ∷ refused (failed 4294967295) 20 11
    ∷ accepted (step 2 (send 1)) 8 (1 ∷ 12 ∷ []) table215 ∷ refused (step 0 (receipt 1 65537)) 16 7 ∷ refused (step 1 checkpoint) 4 9
    ∷ accepted (step 2 (receipt 1 2)) 16 (0 ∷ 0 ∷ 3 ∷ 3 ∷ []) table216 ∷ refused (step 2 (receipt 0 0)) 16 7 ∷ refused (step 1 (receipt 0 2)) 16 9
    ∷ accepted (step 2 (receipt 1 3)) 16 (0 ∷ 0 ∷ 4 ∷ 4 ∷ []) table217 ∷ refused (step 2 checkpoint) 4 9 ∷ refused (step 0 (receipt 2 1)) 16 7
    ∷ refused (step 2 (send 1)) 8 9 ∷ []) ∷ []

pub unmade11_agree : Agree unmade11
unfolding fresh_on step_on line_on failed_on resend_on layout decoded well_laid word put_word put_words failure_answer failure_line rounds round ones ones_in in_transit
unmade11_agree = refl

abbrev table218 : List ℕ
table218 = bytes (3 ∷ 5 ∷ 5 ∷ 15 ∷ 1 ∷ 1 ∷ 15 ∷ 0 ∷ 0 ∷ 1 ∷ 14 ∷ 0 ∷ 0 ∷ 3 ∷ 1 ∷ 1 ∷ 14 ∷ 1 ∷ 14 ∷ 0 ∷ 0 ∷ 2 ∷ 15 ∷ 0 ∷ 0 ∷ 5 ∷ 0 ∷ 2 ∷ 4 ∷ 0 ∷ 3 ∷ 0 ∷ 3 ∷ 0
    ∷ 1 ∷ 0 ∷ 4 ∷ 2 ∷ 1 ∷ 0 ∷ 3 ∷ 2 ∷ 2 ∷ 0 ∷ 1 ∷ 0 ∷ 0 ∷ 0 ∷ 4 ∷ 0 ∷ 1 ∷ 4 ∷ 0 ∷ 3 ∷ 0 ∷ 1 ∷ 0 ∷ 0 ∷ 0 ∷ 4 ∷ 1 ∷ 1 ∷ 0 ∷ 3 ∷ 0 ∷ 1 ∷ 0 ∷ 0 ∷ 0 ∷ 0 ∷ 0 ∷ [])

-- A well laid table that no run makes: n = 3, E = 5.
abbrev unmade12 : List Script
unmade12 = script table218 (accepted (line 0) 12 (0 ∷ 0 ∷ 0 ∷ []) table218 ∷ refused (line 1) 12 15 ∷ refused (line 2) 12 15 ∷ refused (line 15) 12 15
    ∷ refused (line 16) 12 15 ∷ refused (line 4294967295) 12 15 ∷ accepted (failed 0) 20 (5 ∷ 0 ∷ 0 ∷ 6 ∷ 2 ∷ []) table218
    ∷ accepted (failed 1) 20 (5 ∷ 0 ∷ 0 ∷ 7 ∷ 3 ∷ []) table218 ∷ accepted (failed 2) 20 (5 ∷ 0 ∷ 0 ∷ 6 ∷ 2 ∷ []) table218
    ∷ accepted (failed 3) 20 (5 ∷ 0 ∷ 0 ∷ 7 ∷ 3 ∷ []) table218 ∷ accepted (failed 4) 20 (5 ∷ 0 ∷ 0 ∷ 6 ∷ 2 ∷ []) table218
    ∷ accepted (failed 5) 20 (5 ∷ 0 ∷ 0 ∷ 7 ∷ 3 ∷ []) table218 ∷ accepted (failed 6) 20 (5 ∷ 0 ∷ 0 ∷ 6 ∷ 2 ∷ []) table218
    ∷ accepted (failed 7) 20 (5 ∷ 0 ∷ 0 ∷ 7 ∷ 3 ∷ []) table218 ∷ refused (failed 8) 20 11 ∷ refused (failed 4294967295) 20 11
    ∷ refused (step 0 (receipt 2 1)) 16 9 ∷ refused (step 1 (send 0)) 8 9 ∷ refused (step 0 checkpoint) 4 9 ∷ refused (step 3718591026 (send 1)) 8 5
    ∷ refused (step 1 (send 0)) 8 9 ∷ refused (step 1 checkpoint) 4 9 ∷ refused (step 0 (receipt 2 1)) 16 9 ∷ refused (step 0 (receipt 1 4)) 16 7
    ∷ refused (step 2 (receipt 0 0)) 20 4 ∷ refused (step 1 (send 0)) 8 9 ∷ []) ∷ []

pub unmade12_agree : Agree unmade12
unfolding fresh_on step_on line_on failed_on resend_on layout decoded well_laid word put_word put_words failure_answer failure_line rounds round ones ones_in in_transit
unmade12_agree = refl

abbrev table219 : List ℕ
table219 = bytes (3 ∷ 6 ∷ 0 ∷ 0 ∷ 0 ∷ 0 ∷ 0 ∷ 0 ∷ 0 ∷ 0 ∷ 0 ∷ 0 ∷ 0 ∷ 0 ∷ 0 ∷ 0 ∷ 0 ∷ 0 ∷ 0 ∷ 0 ∷ 0 ∷ 0 ∷ 0 ∷ 0 ∷ 0 ∷ 0 ∷ 0 ∷ 0 ∷ 0 ∷ 3 ∷ 9 ∷ 0 ∷ 4 ∷ 0 ∷ 1
    ∷ 0 ∷ 4 ∷ 2 ∷ 2 ∷ 0 ∷ 1 ∷ 9 ∷ 0 ∷ 0 ∷ 0 ∷ 0 ∷ 0 ∷ 0 ∷ 0 ∷ 0 ∷ 0 ∷ 0 ∷ 0 ∷ 0 ∷ 0 ∷ 0 ∷ 6 ∷ 18 ∷ 2 ∷ 4 ∷ 1 ∷ 1 ∷ 0 ∷ 1 ∷ 1 ∷ 0 ∷ 0 ∷ 3 ∷ 0 ∷ 1 ∷ 1 ∷ 3 ∷ 0
    ∷ 2 ∷ 1 ∷ 1 ∷ 0 ∷ 0 ∷ 0 ∷ 2 ∷ 18 ∷ 0 ∷ 0 ∷ [])

abbrev table220 : List ℕ
table220 = bytes (3 ∷ 6 ∷ 0 ∷ 0 ∷ 0 ∷ 0 ∷ 0 ∷ 0 ∷ 0 ∷ 0 ∷ 0 ∷ 0 ∷ 0 ∷ 0 ∷ 0 ∷ 0 ∷ 0 ∷ 0 ∷ 0 ∷ 0 ∷ 0 ∷ 0 ∷ 0 ∷ 0 ∷ 0 ∷ 0 ∷ 0 ∷ 0 ∷ 0 ∷ 4 ∷ 10 ∷ 0 ∷ 4 ∷ 0 ∷ 1
    ∷ 0 ∷ 4 ∷ 2 ∷ 2 ∷ 0 ∷ 1 ∷ 9 ∷ 0 ∷ 0 ∷ 1 ∷ 10 ∷ 0 ∷ 0 ∷ 0 ∷ 0 ∷ 0 ∷ 0 ∷ 0 ∷ 0 ∷ 0 ∷ 0 ∷ 6 ∷ 18 ∷ 2 ∷ 4 ∷ 1 ∷ 1 ∷ 0 ∷ 1 ∷ 1 ∷ 0 ∷ 0 ∷ 3 ∷ 0 ∷ 1 ∷ 1 ∷ 3 ∷ 0
    ∷ 2 ∷ 1 ∷ 1 ∷ 0 ∷ 0 ∷ 0 ∷ 2 ∷ 18 ∷ 0 ∷ 0 ∷ [])

abbrev table221 : List ℕ
table221 = bytes (3 ∷ 6 ∷ 1 ∷ 0 ∷ 1 ∷ 3 ∷ 2 ∷ 1 ∷ 0 ∷ 0 ∷ 0 ∷ 0 ∷ 0 ∷ 0 ∷ 0 ∷ 0 ∷ 0 ∷ 0 ∷ 0 ∷ 0 ∷ 0 ∷ 0 ∷ 0 ∷ 0 ∷ 0 ∷ 0 ∷ 0 ∷ 0 ∷ 0 ∷ 4 ∷ 10 ∷ 0 ∷ 4 ∷ 0 ∷ 1
    ∷ 0 ∷ 4 ∷ 2 ∷ 2 ∷ 0 ∷ 1 ∷ 9 ∷ 0 ∷ 0 ∷ 1 ∷ 10 ∷ 0 ∷ 0 ∷ 0 ∷ 0 ∷ 0 ∷ 0 ∷ 0 ∷ 0 ∷ 0 ∷ 0 ∷ 6 ∷ 18 ∷ 2 ∷ 4 ∷ 1 ∷ 1 ∷ 0 ∷ 1 ∷ 1 ∷ 0 ∷ 0 ∷ 3 ∷ 0 ∷ 1 ∷ 1 ∷ 3 ∷ 0
    ∷ 2 ∷ 1 ∷ 1 ∷ 0 ∷ 0 ∷ 0 ∷ 2 ∷ 18 ∷ 0 ∷ 0 ∷ [])

abbrev table222 : List ℕ
table222 = bytes (3 ∷ 6 ∷ 3 ∷ 1 ∷ 1 ∷ 3 ∷ 2 ∷ 1 ∷ 0 ∷ 2 ∷ 1 ∷ 0 ∷ 0 ∷ 4 ∷ 2 ∷ 2 ∷ 1 ∷ 0 ∷ 0 ∷ 0 ∷ 0 ∷ 0 ∷ 0 ∷ 0 ∷ 0 ∷ 0 ∷ 0 ∷ 0 ∷ 0 ∷ 4 ∷ 10 ∷ 0 ∷ 4 ∷ 0 ∷ 1
    ∷ 0 ∷ 4 ∷ 2 ∷ 2 ∷ 0 ∷ 1 ∷ 9 ∷ 0 ∷ 0 ∷ 1 ∷ 10 ∷ 0 ∷ 0 ∷ 0 ∷ 0 ∷ 0 ∷ 0 ∷ 0 ∷ 0 ∷ 0 ∷ 0 ∷ 6 ∷ 18 ∷ 2 ∷ 4 ∷ 1 ∷ 1 ∷ 0 ∷ 1 ∷ 1 ∷ 0 ∷ 0 ∷ 3 ∷ 0 ∷ 1 ∷ 1 ∷ 3 ∷ 0
    ∷ 2 ∷ 1 ∷ 1 ∷ 0 ∷ 0 ∷ 0 ∷ 2 ∷ 18 ∷ 0 ∷ 0 ∷ [])

abbrev table223 : List ℕ
table223 = bytes (3 ∷ 6 ∷ 4 ∷ 1 ∷ 2 ∷ 3 ∷ 2 ∷ 1 ∷ 0 ∷ 2 ∷ 1 ∷ 0 ∷ 0 ∷ 4 ∷ 2 ∷ 2 ∷ 1 ∷ 3 ∷ 2 ∷ 2 ∷ 1 ∷ 0 ∷ 0 ∷ 0 ∷ 0 ∷ 0 ∷ 0 ∷ 0 ∷ 0 ∷ 4 ∷ 10 ∷ 0 ∷ 4 ∷ 0 ∷ 1
    ∷ 0 ∷ 4 ∷ 2 ∷ 2 ∷ 0 ∷ 1 ∷ 9 ∷ 0 ∷ 0 ∷ 1 ∷ 10 ∷ 0 ∷ 0 ∷ 0 ∷ 0 ∷ 0 ∷ 0 ∷ 0 ∷ 0 ∷ 0 ∷ 0 ∷ 6 ∷ 18 ∷ 2 ∷ 4 ∷ 1 ∷ 1 ∷ 0 ∷ 1 ∷ 1 ∷ 0 ∷ 0 ∷ 3 ∷ 0 ∷ 1 ∷ 1 ∷ 3 ∷ 0
    ∷ 2 ∷ 1 ∷ 1 ∷ 0 ∷ 0 ∷ 0 ∷ 2 ∷ 18 ∷ 0 ∷ 0 ∷ [])

abbrev table224 : List ℕ
table224 = bytes (3 ∷ 6 ∷ 4 ∷ 1 ∷ 2 ∷ 3 ∷ 2 ∷ 1 ∷ 0 ∷ 2 ∷ 1 ∷ 0 ∷ 0 ∷ 4 ∷ 2 ∷ 2 ∷ 1 ∷ 3 ∷ 2 ∷ 2 ∷ 1 ∷ 0 ∷ 0 ∷ 0 ∷ 0 ∷ 0 ∷ 0 ∷ 0 ∷ 0 ∷ 5 ∷ 11 ∷ 0 ∷ 4 ∷ 0 ∷ 1
    ∷ 0 ∷ 4 ∷ 2 ∷ 2 ∷ 0 ∷ 1 ∷ 9 ∷ 0 ∷ 0 ∷ 1 ∷ 10 ∷ 0 ∷ 0 ∷ 1 ∷ 11 ∷ 0 ∷ 0 ∷ 0 ∷ 0 ∷ 0 ∷ 0 ∷ 6 ∷ 18 ∷ 2 ∷ 4 ∷ 1 ∷ 1 ∷ 0 ∷ 1 ∷ 1 ∷ 0 ∷ 0 ∷ 3 ∷ 0 ∷ 1 ∷ 1 ∷ 3 ∷ 0
    ∷ 2 ∷ 1 ∷ 1 ∷ 0 ∷ 0 ∷ 0 ∷ 2 ∷ 18 ∷ 0 ∷ 0 ∷ [])

abbrev table225 : List ℕ
table225 = bytes (3 ∷ 6 ∷ 5 ∷ 1 ∷ 3 ∷ 3 ∷ 2 ∷ 1 ∷ 0 ∷ 2 ∷ 1 ∷ 0 ∷ 0 ∷ 4 ∷ 2 ∷ 2 ∷ 1 ∷ 3 ∷ 2 ∷ 2 ∷ 1 ∷ 3 ∷ 2 ∷ 3 ∷ 1 ∷ 0 ∷ 0 ∷ 0 ∷ 0 ∷ 5 ∷ 11 ∷ 0 ∷ 4 ∷ 0 ∷ 1
    ∷ 0 ∷ 4 ∷ 2 ∷ 2 ∷ 0 ∷ 1 ∷ 9 ∷ 0 ∷ 0 ∷ 1 ∷ 10 ∷ 0 ∷ 0 ∷ 1 ∷ 11 ∷ 0 ∷ 0 ∷ 0 ∷ 0 ∷ 0 ∷ 0 ∷ 6 ∷ 18 ∷ 2 ∷ 4 ∷ 1 ∷ 1 ∷ 0 ∷ 1 ∷ 1 ∷ 0 ∷ 0 ∷ 3 ∷ 0 ∷ 1 ∷ 1 ∷ 3 ∷ 0
    ∷ 2 ∷ 1 ∷ 1 ∷ 0 ∷ 0 ∷ 0 ∷ 2 ∷ 18 ∷ 0 ∷ 0 ∷ [])

-- A well laid table that no run makes: n = 3, E = 6.
abbrev unmade13 : List Script
unmade13 = script table219 (accepted (line 0) 12 (0 ∷ 0 ∷ 0 ∷ []) table219 ∷ refused (line 1) 12 15 ∷ refused (line 2) 12 15 ∷ refused (line 18) 12 15
    ∷ refused (line 19) 12 15 ∷ refused (line 4294967295) 12 15 ∷ accepted (failed 0) 20 (0 ∷ 0 ∷ 0 ∷ 6 ∷ 2 ∷ []) table219
    ∷ accepted (failed 1) 20 (0 ∷ 0 ∷ 0 ∷ 7 ∷ 3 ∷ []) table219 ∷ accepted (failed 2) 20 (0 ∷ 0 ∷ 0 ∷ 6 ∷ 2 ∷ []) table219
    ∷ accepted (failed 3) 20 (0 ∷ 0 ∷ 0 ∷ 7 ∷ 3 ∷ []) table219 ∷ accepted (failed 4) 20 (0 ∷ 0 ∷ 0 ∷ 6 ∷ 2 ∷ []) table219
    ∷ accepted (failed 5) 20 (0 ∷ 0 ∷ 0 ∷ 7 ∷ 3 ∷ []) table219 ∷ accepted (failed 6) 20 (0 ∷ 0 ∷ 0 ∷ 6 ∷ 2 ∷ []) table219
    ∷ accepted (failed 7) 20 (0 ∷ 0 ∷ 0 ∷ 7 ∷ 3 ∷ []) table219 ∷ refused (failed 8) 20 11 ∷ refused (failed 4294967295) 20 11
    ∷ accepted (step 1 checkpoint) 4 (10 ∷ []) table220 ∷ accepted (step 0 (send 2)) 8 (1 ∷ 0 ∷ []) table221
    ∷ accepted (step 0 (receipt 2 2)) 16 (1 ∷ 1 ∷ 4 ∷ 3 ∷ []) table222 ∷ accepted (step 0 (send 2)) 8 (2 ∷ 1 ∷ []) table223
    ∷ refused (step 2 (receipt 1 5)) 16 7 ∷ accepted (step 1 checkpoint) 4 (11 ∷ []) table224 ∷ accepted (step 0 (send 2)) 8 (3 ∷ 1 ∷ []) table225
    ∷ refused (step 2 (send 2)) 8 6 ∷ refused (step 2 checkpoint) 4 9 ∷ refused (step 2 (receipt 0 2)) 16 9 ∷ []) ∷ []

pub unmade13_agree : Agree unmade13
unfolding fresh_on step_on line_on failed_on resend_on layout decoded well_laid word put_word put_words failure_answer failure_line rounds round ones ones_in in_transit
unmade13_agree = refl

abbrev table226 : List ℕ
table226 = bytes (3 ∷ 4 ∷ 4 ∷ 0 ∷ 3 ∷ 3 ∷ 1 ∷ 1 ∷ 0 ∷ 3 ∷ 2 ∷ 2 ∷ 0 ∷ 3 ∷ 1 ∷ 3 ∷ 0 ∷ 4 ∷ 1 ∷ 1 ∷ 0 ∷ 4 ∷ 0 ∷ 1 ∷ 4 ∷ 0 ∷ 3 ∷ 0 ∷ 4 ∷ 0 ∷ 2 ∷ 0 ∷ 3 ∷ 2 ∷ 1
    ∷ 0 ∷ 4 ∷ 0 ∷ 3 ∷ 0 ∷ 2 ∷ 0 ∷ 0 ∷ 4 ∷ 0 ∷ 1 ∷ 0 ∷ 4 ∷ 1 ∷ 1 ∷ 0 ∷ 0 ∷ 0 ∷ 0 ∷ 0 ∷ 0 ∷ 0 ∷ 0 ∷ 0 ∷ [])

-- Resend at every cut of the worked controller, and of a table whose receipts are by others than the destination, or twice.
abbrev resend_cuts : List Script
resend_cuts = script table7 (resend (0 ∷ 0 ∷ 0 ∷ []) [] 4 0 (0 ∷ []) ∷ resend (0 ∷ 0 ∷ 0 ∷ []) [] 3 13 [] ∷ resend (0 ∷ 0 ∷ 0 ∷ []) [] 5 0 (0 ∷ [])
    ∷ resend (0 ∷ 0 ∷ 0 ∷ []) [] 104 0 (0 ∷ []) ∷ resend (1 ∷ 0 ∷ 0 ∷ []) [] 4 0 (0 ∷ []) ∷ resend (2 ∷ 0 ∷ 0 ∷ []) [] 16 0 (1 ∷ 0 ∷ 1 ∷ 1 ∷ [])
    ∷ resend (0 ∷ 1 ∷ 0 ∷ []) [] 16 0 (1 ∷ 1 ∷ 1 ∷ 2 ∷ []) ∷ resend (1 ∷ 1 ∷ 0 ∷ []) [] 16 0 (1 ∷ 1 ∷ 1 ∷ 2 ∷ [])
    ∷ resend (2 ∷ 1 ∷ 0 ∷ []) [] 28 0 (2 ∷ 0 ∷ 1 ∷ 1 ∷ 1 ∷ 1 ∷ 2 ∷ []) ∷ resend (0 ∷ 2 ∷ 0 ∷ []) [] 16 0 (1 ∷ 1 ∷ 1 ∷ 2 ∷ [])
    ∷ resend (0 ∷ 2 ∷ 0 ∷ []) [] 15 13 [] ∷ resend (0 ∷ 2 ∷ 0 ∷ []) [] 17 0 (1 ∷ 1 ∷ 1 ∷ 2 ∷ []) ∷ resend (0 ∷ 2 ∷ 0 ∷ []) [] 116 0 (1 ∷ 1 ∷ 1 ∷ 2 ∷ [])
    ∷ resend (1 ∷ 2 ∷ 0 ∷ []) [] 16 0 (1 ∷ 1 ∷ 1 ∷ 2 ∷ []) ∷ resend (2 ∷ 2 ∷ 0 ∷ []) [] 28 0 (2 ∷ 0 ∷ 1 ∷ 1 ∷ 1 ∷ 1 ∷ 2 ∷ [])
    ∷ resend (0 ∷ 3 ∷ 0 ∷ []) [] 16 0 (1 ∷ 1 ∷ 1 ∷ 2 ∷ []) ∷ resend (1 ∷ 3 ∷ 0 ∷ []) [] 16 0 (1 ∷ 1 ∷ 1 ∷ 2 ∷ [])
    ∷ resend (2 ∷ 3 ∷ 0 ∷ []) [] 16 0 (1 ∷ 1 ∷ 1 ∷ 2 ∷ []) ∷ resend (0 ∷ 4 ∷ 0 ∷ []) [] 28 0 (2 ∷ 1 ∷ 1 ∷ 2 ∷ 1 ∷ 2 ∷ 2 ∷ [])
    ∷ resend (0 ∷ 4 ∷ 0 ∷ []) [] 27 13 [] ∷ resend (0 ∷ 4 ∷ 0 ∷ []) [] 29 0 (2 ∷ 1 ∷ 1 ∷ 2 ∷ 1 ∷ 2 ∷ 2 ∷ [])
    ∷ resend (0 ∷ 4 ∷ 0 ∷ []) [] 128 0 (2 ∷ 1 ∷ 1 ∷ 2 ∷ 1 ∷ 2 ∷ 2 ∷ []) ∷ resend (1 ∷ 4 ∷ 0 ∷ []) [] 28 0 (2 ∷ 1 ∷ 1 ∷ 2 ∷ 1 ∷ 2 ∷ 2 ∷ [])
    ∷ resend (2 ∷ 4 ∷ 0 ∷ []) [] 28 0 (2 ∷ 1 ∷ 1 ∷ 2 ∷ 1 ∷ 2 ∷ 2 ∷ []) ∷ resend (0 ∷ 0 ∷ 1 ∷ []) [] 4 0 (0 ∷ []) ∷ resend (1 ∷ 0 ∷ 1 ∷ []) [] 4 0 (0 ∷ [])
    ∷ resend (2 ∷ 0 ∷ 1 ∷ []) [] 16 0 (1 ∷ 0 ∷ 1 ∷ 1 ∷ []) ∷ resend (0 ∷ 1 ∷ 1 ∷ []) [] 16 0 (1 ∷ 1 ∷ 1 ∷ 2 ∷ []) ∷ resend (0 ∷ 1 ∷ 1 ∷ []) [] 15 13 []
    ∷ resend (0 ∷ 1 ∷ 1 ∷ []) [] 17 0 (1 ∷ 1 ∷ 1 ∷ 2 ∷ []) ∷ resend (0 ∷ 1 ∷ 1 ∷ []) [] 116 0 (1 ∷ 1 ∷ 1 ∷ 2 ∷ [])
    ∷ resend (1 ∷ 1 ∷ 1 ∷ []) [] 16 0 (1 ∷ 1 ∷ 1 ∷ 2 ∷ []) ∷ resend (2 ∷ 1 ∷ 1 ∷ []) [] 28 0 (2 ∷ 0 ∷ 1 ∷ 1 ∷ 1 ∷ 1 ∷ 2 ∷ [])
    ∷ resend (0 ∷ 2 ∷ 1 ∷ []) [] 16 0 (1 ∷ 1 ∷ 1 ∷ 2 ∷ []) ∷ resend (1 ∷ 2 ∷ 1 ∷ []) [] 16 0 (1 ∷ 1 ∷ 1 ∷ 2 ∷ [])
    ∷ resend (2 ∷ 2 ∷ 1 ∷ []) [] 28 0 (2 ∷ 0 ∷ 1 ∷ 1 ∷ 1 ∷ 1 ∷ 2 ∷ []) ∷ resend (0 ∷ 3 ∷ 1 ∷ []) [] 16 0 (1 ∷ 1 ∷ 1 ∷ 2 ∷ [])
    ∷ resend (0 ∷ 3 ∷ 1 ∷ []) [] 15 13 [] ∷ resend (0 ∷ 3 ∷ 1 ∷ []) [] 17 0 (1 ∷ 1 ∷ 1 ∷ 2 ∷ []) ∷ resend (0 ∷ 3 ∷ 1 ∷ []) [] 116 0 (1 ∷ 1 ∷ 1 ∷ 2 ∷ [])
    ∷ resend (1 ∷ 3 ∷ 1 ∷ []) [] 16 0 (1 ∷ 1 ∷ 1 ∷ 2 ∷ []) ∷ resend (2 ∷ 3 ∷ 1 ∷ []) [] 16 0 (1 ∷ 1 ∷ 1 ∷ 2 ∷ [])
    ∷ resend (0 ∷ 4 ∷ 1 ∷ []) [] 28 0 (2 ∷ 1 ∷ 1 ∷ 2 ∷ 1 ∷ 2 ∷ 2 ∷ []) ∷ resend (1 ∷ 4 ∷ 1 ∷ []) [] 28 0 (2 ∷ 1 ∷ 1 ∷ 2 ∷ 1 ∷ 2 ∷ 2 ∷ [])
    ∷ resend (2 ∷ 4 ∷ 1 ∷ []) [] 28 0 (2 ∷ 1 ∷ 1 ∷ 2 ∷ 1 ∷ 2 ∷ 2 ∷ []) ∷ resend (0 ∷ 0 ∷ 2 ∷ []) [] 4 0 (0 ∷ []) ∷ resend (0 ∷ 0 ∷ 2 ∷ []) [] 3 13 []
    ∷ resend (0 ∷ 0 ∷ 2 ∷ []) [] 5 0 (0 ∷ []) ∷ resend (0 ∷ 0 ∷ 2 ∷ []) [] 104 0 (0 ∷ []) ∷ resend (1 ∷ 0 ∷ 2 ∷ []) [] 4 0 (0 ∷ [])
    ∷ resend (2 ∷ 0 ∷ 2 ∷ []) [] 16 0 (1 ∷ 0 ∷ 1 ∷ 1 ∷ []) ∷ resend (0 ∷ 1 ∷ 2 ∷ []) [] 16 0 (1 ∷ 1 ∷ 1 ∷ 2 ∷ [])
    ∷ resend (1 ∷ 1 ∷ 2 ∷ []) [] 16 0 (1 ∷ 1 ∷ 1 ∷ 2 ∷ []) ∷ resend (2 ∷ 1 ∷ 2 ∷ []) [] 28 0 (2 ∷ 0 ∷ 1 ∷ 1 ∷ 1 ∷ 1 ∷ 2 ∷ [])
    ∷ resend (0 ∷ 2 ∷ 2 ∷ []) [] 16 0 (1 ∷ 1 ∷ 1 ∷ 2 ∷ []) ∷ resend (0 ∷ 2 ∷ 2 ∷ []) [] 15 13 [] ∷ resend (0 ∷ 2 ∷ 2 ∷ []) [] 17 0 (1 ∷ 1 ∷ 1 ∷ 2 ∷ [])
    ∷ resend (0 ∷ 2 ∷ 2 ∷ []) [] 116 0 (1 ∷ 1 ∷ 1 ∷ 2 ∷ []) ∷ resend (1 ∷ 2 ∷ 2 ∷ []) [] 16 0 (1 ∷ 1 ∷ 1 ∷ 2 ∷ [])
    ∷ resend (2 ∷ 2 ∷ 2 ∷ []) [] 28 0 (2 ∷ 0 ∷ 1 ∷ 1 ∷ 1 ∷ 1 ∷ 2 ∷ []) ∷ resend (0 ∷ 3 ∷ 2 ∷ []) [] 16 0 (1 ∷ 1 ∷ 1 ∷ 2 ∷ [])
    ∷ resend (1 ∷ 3 ∷ 2 ∷ []) [] 16 0 (1 ∷ 1 ∷ 1 ∷ 2 ∷ []) ∷ resend (2 ∷ 3 ∷ 2 ∷ []) [] 16 0 (1 ∷ 1 ∷ 1 ∷ 2 ∷ [])
    ∷ resend (0 ∷ 4 ∷ 2 ∷ []) [] 16 0 (1 ∷ 1 ∷ 1 ∷ 2 ∷ []) ∷ resend (0 ∷ 4 ∷ 2 ∷ []) [] 15 13 [] ∷ resend (0 ∷ 4 ∷ 2 ∷ []) [] 17 0 (1 ∷ 1 ∷ 1 ∷ 2 ∷ [])
    ∷ resend (0 ∷ 4 ∷ 2 ∷ []) [] 116 0 (1 ∷ 1 ∷ 1 ∷ 2 ∷ []) ∷ resend (1 ∷ 4 ∷ 2 ∷ []) [] 16 0 (1 ∷ 1 ∷ 1 ∷ 2 ∷ [])
    ∷ resend (2 ∷ 4 ∷ 2 ∷ []) [] 16 0 (1 ∷ 1 ∷ 1 ∷ 2 ∷ []) ∷ resend (0 ∷ 0 ∷ 3 ∷ []) [] 4 0 (0 ∷ []) ∷ resend (1 ∷ 0 ∷ 3 ∷ []) [] 4 0 (0 ∷ [])
    ∷ resend (2 ∷ 0 ∷ 3 ∷ []) [] 16 0 (1 ∷ 0 ∷ 1 ∷ 1 ∷ []) ∷ resend (0 ∷ 1 ∷ 3 ∷ []) [] 4 0 (0 ∷ []) ∷ resend (0 ∷ 1 ∷ 3 ∷ []) [] 3 13 []
    ∷ resend (0 ∷ 1 ∷ 3 ∷ []) [] 5 0 (0 ∷ []) ∷ resend (0 ∷ 1 ∷ 3 ∷ []) [] 104 0 (0 ∷ []) ∷ resend (1 ∷ 1 ∷ 3 ∷ []) [] 4 0 (0 ∷ [])
    ∷ resend (2 ∷ 1 ∷ 3 ∷ []) [] 16 0 (1 ∷ 0 ∷ 1 ∷ 1 ∷ []) ∷ resend (0 ∷ 2 ∷ 3 ∷ []) [] 4 0 (0 ∷ []) ∷ resend (1 ∷ 2 ∷ 3 ∷ []) [] 4 0 (0 ∷ [])
    ∷ resend (2 ∷ 2 ∷ 3 ∷ []) [] 16 0 (1 ∷ 0 ∷ 1 ∷ 1 ∷ []) ∷ resend (0 ∷ 3 ∷ 3 ∷ []) [] 4 0 (0 ∷ []) ∷ resend (0 ∷ 3 ∷ 3 ∷ []) [] 3 13 []
    ∷ resend (0 ∷ 3 ∷ 3 ∷ []) [] 5 0 (0 ∷ []) ∷ resend (0 ∷ 3 ∷ 3 ∷ []) [] 104 0 (0 ∷ []) ∷ resend (1 ∷ 3 ∷ 3 ∷ []) [] 4 0 (0 ∷ [])
    ∷ resend (2 ∷ 3 ∷ 3 ∷ []) [] 4 0 (0 ∷ []) ∷ resend (0 ∷ 4 ∷ 3 ∷ []) [] 4 0 (0 ∷ []) ∷ resend (1 ∷ 4 ∷ 3 ∷ []) [] 4 0 (0 ∷ [])
    ∷ resend (2 ∷ 4 ∷ 3 ∷ []) [] 4 0 (0 ∷ []) ∷ []) ∷ script table226 (resend (0 ∷ 0 ∷ 0 ∷ []) [] 4 0 (0 ∷ []) ∷ resend (0 ∷ 0 ∷ 0 ∷ []) [] 3 13 []
    ∷ resend (0 ∷ 0 ∷ 0 ∷ []) [] 5 0 (0 ∷ []) ∷ resend (0 ∷ 0 ∷ 0 ∷ []) [] 104 0 (0 ∷ []) ∷ resend (1 ∷ 0 ∷ 0 ∷ []) [] 16 0 (1 ∷ 0 ∷ 1 ∷ 1 ∷ [])
    ∷ resend (2 ∷ 0 ∷ 0 ∷ []) [] 28 0 (2 ∷ 0 ∷ 1 ∷ 1 ∷ 0 ∷ 2 ∷ 2 ∷ []) ∷ resend (3 ∷ 0 ∷ 0 ∷ []) [] 40 0 (3 ∷ 0 ∷ 1 ∷ 1 ∷ 0 ∷ 2 ∷ 2 ∷ 0 ∷ 3 ∷ 1 ∷ [])
    ∷ resend (4 ∷ 0 ∷ 0 ∷ []) [] 40 0 (3 ∷ 0 ∷ 1 ∷ 1 ∷ 0 ∷ 2 ∷ 2 ∷ 0 ∷ 3 ∷ 1 ∷ []) ∷ resend (0 ∷ 1 ∷ 0 ∷ []) [] 4 0 (0 ∷ [])
    ∷ resend (1 ∷ 1 ∷ 0 ∷ []) [] 16 0 (1 ∷ 0 ∷ 1 ∷ 1 ∷ []) ∷ resend (1 ∷ 1 ∷ 0 ∷ []) [] 15 13 [] ∷ resend (1 ∷ 1 ∷ 0 ∷ []) [] 17 0 (1 ∷ 0 ∷ 1 ∷ 1 ∷ [])
    ∷ resend (1 ∷ 1 ∷ 0 ∷ []) [] 116 0 (1 ∷ 0 ∷ 1 ∷ 1 ∷ []) ∷ resend (2 ∷ 1 ∷ 0 ∷ []) [] 28 0 (2 ∷ 0 ∷ 1 ∷ 1 ∷ 0 ∷ 2 ∷ 2 ∷ [])
    ∷ resend (3 ∷ 1 ∷ 0 ∷ []) [] 28 0 (2 ∷ 0 ∷ 1 ∷ 1 ∷ 0 ∷ 2 ∷ 2 ∷ []) ∷ resend (4 ∷ 1 ∷ 0 ∷ []) [] 28 0 (2 ∷ 0 ∷ 1 ∷ 1 ∷ 0 ∷ 2 ∷ 2 ∷ [])
    ∷ resend (0 ∷ 2 ∷ 0 ∷ []) [] 4 0 (0 ∷ []) ∷ resend (1 ∷ 2 ∷ 0 ∷ []) [] 16 0 (1 ∷ 0 ∷ 1 ∷ 1 ∷ [])
    ∷ resend (2 ∷ 2 ∷ 0 ∷ []) [] 28 0 (2 ∷ 0 ∷ 1 ∷ 1 ∷ 0 ∷ 2 ∷ 2 ∷ []) ∷ resend (2 ∷ 2 ∷ 0 ∷ []) [] 27 13 []
    ∷ resend (2 ∷ 2 ∷ 0 ∷ []) [] 29 0 (2 ∷ 0 ∷ 1 ∷ 1 ∷ 0 ∷ 2 ∷ 2 ∷ []) ∷ resend (2 ∷ 2 ∷ 0 ∷ []) [] 128 0 (2 ∷ 0 ∷ 1 ∷ 1 ∷ 0 ∷ 2 ∷ 2 ∷ [])
    ∷ resend (3 ∷ 2 ∷ 0 ∷ []) [] 28 0 (2 ∷ 0 ∷ 1 ∷ 1 ∷ 0 ∷ 2 ∷ 2 ∷ []) ∷ resend (4 ∷ 2 ∷ 0 ∷ []) [] 28 0 (2 ∷ 0 ∷ 1 ∷ 1 ∷ 0 ∷ 2 ∷ 2 ∷ [])
    ∷ resend (0 ∷ 3 ∷ 0 ∷ []) [] 16 0 (1 ∷ 1 ∷ 1 ∷ 2 ∷ []) ∷ resend (1 ∷ 3 ∷ 0 ∷ []) [] 28 0 (2 ∷ 0 ∷ 1 ∷ 1 ∷ 1 ∷ 1 ∷ 2 ∷ [])
    ∷ resend (2 ∷ 3 ∷ 0 ∷ []) [] 40 0 (3 ∷ 0 ∷ 1 ∷ 1 ∷ 0 ∷ 2 ∷ 2 ∷ 1 ∷ 1 ∷ 2 ∷ [])
    ∷ resend (3 ∷ 3 ∷ 0 ∷ []) [] 40 0 (3 ∷ 0 ∷ 1 ∷ 1 ∷ 0 ∷ 2 ∷ 2 ∷ 1 ∷ 1 ∷ 2 ∷ []) ∷ resend (3 ∷ 3 ∷ 0 ∷ []) [] 39 13 []
    ∷ resend (3 ∷ 3 ∷ 0 ∷ []) [] 41 0 (3 ∷ 0 ∷ 1 ∷ 1 ∷ 0 ∷ 2 ∷ 2 ∷ 1 ∷ 1 ∷ 2 ∷ [])
    ∷ resend (3 ∷ 3 ∷ 0 ∷ []) [] 140 0 (3 ∷ 0 ∷ 1 ∷ 1 ∷ 0 ∷ 2 ∷ 2 ∷ 1 ∷ 1 ∷ 2 ∷ [])
    ∷ resend (4 ∷ 3 ∷ 0 ∷ []) [] 40 0 (3 ∷ 0 ∷ 1 ∷ 1 ∷ 0 ∷ 2 ∷ 2 ∷ 1 ∷ 1 ∷ 2 ∷ []) ∷ resend (0 ∷ 4 ∷ 0 ∷ []) [] 16 0 (1 ∷ 1 ∷ 1 ∷ 2 ∷ [])
    ∷ resend (1 ∷ 4 ∷ 0 ∷ []) [] 28 0 (2 ∷ 0 ∷ 1 ∷ 1 ∷ 1 ∷ 1 ∷ 2 ∷ []) ∷ resend (2 ∷ 4 ∷ 0 ∷ []) [] 40 0 (3 ∷ 0 ∷ 1 ∷ 1 ∷ 0 ∷ 2 ∷ 2 ∷ 1 ∷ 1 ∷ 2 ∷ [])
    ∷ resend (3 ∷ 4 ∷ 0 ∷ []) [] 40 0 (3 ∷ 0 ∷ 1 ∷ 1 ∷ 0 ∷ 2 ∷ 2 ∷ 1 ∷ 1 ∷ 2 ∷ [])
    ∷ resend (4 ∷ 4 ∷ 0 ∷ []) [] 40 0 (3 ∷ 0 ∷ 1 ∷ 1 ∷ 0 ∷ 2 ∷ 2 ∷ 1 ∷ 1 ∷ 2 ∷ []) ∷ resend (4 ∷ 4 ∷ 0 ∷ []) [] 39 13 []
    ∷ resend (4 ∷ 4 ∷ 0 ∷ []) [] 41 0 (3 ∷ 0 ∷ 1 ∷ 1 ∷ 0 ∷ 2 ∷ 2 ∷ 1 ∷ 1 ∷ 2 ∷ [])
    ∷ resend (4 ∷ 4 ∷ 0 ∷ []) [] 140 0 (3 ∷ 0 ∷ 1 ∷ 1 ∷ 0 ∷ 2 ∷ 2 ∷ 1 ∷ 1 ∷ 2 ∷ []) ∷ resend (0 ∷ 0 ∷ 1 ∷ []) [] 4 0 (0 ∷ [])
    ∷ resend (1 ∷ 0 ∷ 1 ∷ []) [] 16 0 (1 ∷ 0 ∷ 1 ∷ 1 ∷ []) ∷ resend (2 ∷ 0 ∷ 1 ∷ []) [] 28 0 (2 ∷ 0 ∷ 1 ∷ 1 ∷ 0 ∷ 2 ∷ 2 ∷ [])
    ∷ resend (3 ∷ 0 ∷ 1 ∷ []) [] 40 0 (3 ∷ 0 ∷ 1 ∷ 1 ∷ 0 ∷ 2 ∷ 2 ∷ 0 ∷ 3 ∷ 1 ∷ [])
    ∷ resend (4 ∷ 0 ∷ 1 ∷ []) [] 40 0 (3 ∷ 0 ∷ 1 ∷ 1 ∷ 0 ∷ 2 ∷ 2 ∷ 0 ∷ 3 ∷ 1 ∷ []) ∷ resend (0 ∷ 1 ∷ 1 ∷ []) [] 4 0 (0 ∷ [])
    ∷ resend (0 ∷ 1 ∷ 1 ∷ []) [] 3 13 [] ∷ resend (0 ∷ 1 ∷ 1 ∷ []) [] 5 0 (0 ∷ []) ∷ resend (0 ∷ 1 ∷ 1 ∷ []) [] 104 0 (0 ∷ [])
    ∷ resend (1 ∷ 1 ∷ 1 ∷ []) [] 16 0 (1 ∷ 0 ∷ 1 ∷ 1 ∷ []) ∷ resend (2 ∷ 1 ∷ 1 ∷ []) [] 28 0 (2 ∷ 0 ∷ 1 ∷ 1 ∷ 0 ∷ 2 ∷ 2 ∷ [])
    ∷ resend (3 ∷ 1 ∷ 1 ∷ []) [] 28 0 (2 ∷ 0 ∷ 1 ∷ 1 ∷ 0 ∷ 2 ∷ 2 ∷ []) ∷ resend (4 ∷ 1 ∷ 1 ∷ []) [] 28 0 (2 ∷ 0 ∷ 1 ∷ 1 ∷ 0 ∷ 2 ∷ 2 ∷ [])
    ∷ resend (0 ∷ 2 ∷ 1 ∷ []) [] 4 0 (0 ∷ []) ∷ resend (1 ∷ 2 ∷ 1 ∷ []) [] 16 0 (1 ∷ 0 ∷ 1 ∷ 1 ∷ []) ∷ resend (1 ∷ 2 ∷ 1 ∷ []) [] 15 13 []
    ∷ resend (1 ∷ 2 ∷ 1 ∷ []) [] 17 0 (1 ∷ 0 ∷ 1 ∷ 1 ∷ []) ∷ resend (1 ∷ 2 ∷ 1 ∷ []) [] 116 0 (1 ∷ 0 ∷ 1 ∷ 1 ∷ [])
    ∷ resend (2 ∷ 2 ∷ 1 ∷ []) [] 28 0 (2 ∷ 0 ∷ 1 ∷ 1 ∷ 0 ∷ 2 ∷ 2 ∷ []) ∷ resend (3 ∷ 2 ∷ 1 ∷ []) [] 28 0 (2 ∷ 0 ∷ 1 ∷ 1 ∷ 0 ∷ 2 ∷ 2 ∷ [])
    ∷ resend (4 ∷ 2 ∷ 1 ∷ []) [] 28 0 (2 ∷ 0 ∷ 1 ∷ 1 ∷ 0 ∷ 2 ∷ 2 ∷ []) ∷ resend (0 ∷ 3 ∷ 1 ∷ []) [] 16 0 (1 ∷ 1 ∷ 1 ∷ 2 ∷ [])
    ∷ resend (1 ∷ 3 ∷ 1 ∷ []) [] 28 0 (2 ∷ 0 ∷ 1 ∷ 1 ∷ 1 ∷ 1 ∷ 2 ∷ []) ∷ resend (2 ∷ 3 ∷ 1 ∷ []) [] 40 0 (3 ∷ 0 ∷ 1 ∷ 1 ∷ 0 ∷ 2 ∷ 2 ∷ 1 ∷ 1 ∷ 2 ∷ [])
    ∷ resend (2 ∷ 3 ∷ 1 ∷ []) [] 39 13 [] ∷ resend (2 ∷ 3 ∷ 1 ∷ []) [] 41 0 (3 ∷ 0 ∷ 1 ∷ 1 ∷ 0 ∷ 2 ∷ 2 ∷ 1 ∷ 1 ∷ 2 ∷ [])
    ∷ resend (2 ∷ 3 ∷ 1 ∷ []) [] 140 0 (3 ∷ 0 ∷ 1 ∷ 1 ∷ 0 ∷ 2 ∷ 2 ∷ 1 ∷ 1 ∷ 2 ∷ [])
    ∷ resend (3 ∷ 3 ∷ 1 ∷ []) [] 40 0 (3 ∷ 0 ∷ 1 ∷ 1 ∷ 0 ∷ 2 ∷ 2 ∷ 1 ∷ 1 ∷ 2 ∷ [])
    ∷ resend (4 ∷ 3 ∷ 1 ∷ []) [] 40 0 (3 ∷ 0 ∷ 1 ∷ 1 ∷ 0 ∷ 2 ∷ 2 ∷ 1 ∷ 1 ∷ 2 ∷ []) ∷ resend (0 ∷ 4 ∷ 1 ∷ []) [] 16 0 (1 ∷ 1 ∷ 1 ∷ 2 ∷ [])
    ∷ resend (1 ∷ 4 ∷ 1 ∷ []) [] 28 0 (2 ∷ 0 ∷ 1 ∷ 1 ∷ 1 ∷ 1 ∷ 2 ∷ []) ∷ resend (2 ∷ 4 ∷ 1 ∷ []) [] 40 0 (3 ∷ 0 ∷ 1 ∷ 1 ∷ 0 ∷ 2 ∷ 2 ∷ 1 ∷ 1 ∷ 2 ∷ [])
    ∷ resend (3 ∷ 4 ∷ 1 ∷ []) [] 40 0 (3 ∷ 0 ∷ 1 ∷ 1 ∷ 0 ∷ 2 ∷ 2 ∷ 1 ∷ 1 ∷ 2 ∷ []) ∷ resend (3 ∷ 4 ∷ 1 ∷ []) [] 39 13 []
    ∷ resend (3 ∷ 4 ∷ 1 ∷ []) [] 41 0 (3 ∷ 0 ∷ 1 ∷ 1 ∷ 0 ∷ 2 ∷ 2 ∷ 1 ∷ 1 ∷ 2 ∷ [])
    ∷ resend (3 ∷ 4 ∷ 1 ∷ []) [] 140 0 (3 ∷ 0 ∷ 1 ∷ 1 ∷ 0 ∷ 2 ∷ 2 ∷ 1 ∷ 1 ∷ 2 ∷ [])
    ∷ resend (4 ∷ 4 ∷ 1 ∷ []) [] 40 0 (3 ∷ 0 ∷ 1 ∷ 1 ∷ 0 ∷ 2 ∷ 2 ∷ 1 ∷ 1 ∷ 2 ∷ []) ∷ resend (0 ∷ 0 ∷ 2 ∷ []) [] 4 0 (0 ∷ [])
    ∷ resend (1 ∷ 0 ∷ 2 ∷ []) [] 16 0 (1 ∷ 0 ∷ 1 ∷ 1 ∷ []) ∷ resend (2 ∷ 0 ∷ 2 ∷ []) [] 28 0 (2 ∷ 0 ∷ 1 ∷ 1 ∷ 0 ∷ 2 ∷ 2 ∷ [])
    ∷ resend (3 ∷ 0 ∷ 2 ∷ []) [] 40 0 (3 ∷ 0 ∷ 1 ∷ 1 ∷ 0 ∷ 2 ∷ 2 ∷ 0 ∷ 3 ∷ 1 ∷ [])
    ∷ resend (4 ∷ 0 ∷ 2 ∷ []) [] 40 0 (3 ∷ 0 ∷ 1 ∷ 1 ∷ 0 ∷ 2 ∷ 2 ∷ 0 ∷ 3 ∷ 1 ∷ []) ∷ resend (4 ∷ 0 ∷ 2 ∷ []) [] 39 13 []
    ∷ resend (4 ∷ 0 ∷ 2 ∷ []) [] 41 0 (3 ∷ 0 ∷ 1 ∷ 1 ∷ 0 ∷ 2 ∷ 2 ∷ 0 ∷ 3 ∷ 1 ∷ [])
    ∷ resend (4 ∷ 0 ∷ 2 ∷ []) [] 140 0 (3 ∷ 0 ∷ 1 ∷ 1 ∷ 0 ∷ 2 ∷ 2 ∷ 0 ∷ 3 ∷ 1 ∷ []) ∷ resend (0 ∷ 1 ∷ 2 ∷ []) [] 4 0 (0 ∷ [])
    ∷ resend (1 ∷ 1 ∷ 2 ∷ []) [] 16 0 (1 ∷ 0 ∷ 1 ∷ 1 ∷ []) ∷ resend (2 ∷ 1 ∷ 2 ∷ []) [] 28 0 (2 ∷ 0 ∷ 1 ∷ 1 ∷ 0 ∷ 2 ∷ 2 ∷ [])
    ∷ resend (3 ∷ 1 ∷ 2 ∷ []) [] 28 0 (2 ∷ 0 ∷ 1 ∷ 1 ∷ 0 ∷ 2 ∷ 2 ∷ []) ∷ resend (4 ∷ 1 ∷ 2 ∷ []) [] 28 0 (2 ∷ 0 ∷ 1 ∷ 1 ∷ 0 ∷ 2 ∷ 2 ∷ [])
    ∷ resend (0 ∷ 2 ∷ 2 ∷ []) [] 4 0 (0 ∷ []) ∷ resend (0 ∷ 2 ∷ 2 ∷ []) [] 3 13 [] ∷ resend (0 ∷ 2 ∷ 2 ∷ []) [] 5 0 (0 ∷ [])
    ∷ resend (0 ∷ 2 ∷ 2 ∷ []) [] 104 0 (0 ∷ []) ∷ resend (1 ∷ 2 ∷ 2 ∷ []) [] 16 0 (1 ∷ 0 ∷ 1 ∷ 1 ∷ [])
    ∷ resend (2 ∷ 2 ∷ 2 ∷ []) [] 28 0 (2 ∷ 0 ∷ 1 ∷ 1 ∷ 0 ∷ 2 ∷ 2 ∷ []) ∷ resend (3 ∷ 2 ∷ 2 ∷ []) [] 28 0 (2 ∷ 0 ∷ 1 ∷ 1 ∷ 0 ∷ 2 ∷ 2 ∷ [])
    ∷ resend (4 ∷ 2 ∷ 2 ∷ []) [] 28 0 (2 ∷ 0 ∷ 1 ∷ 1 ∷ 0 ∷ 2 ∷ 2 ∷ []) ∷ resend (0 ∷ 3 ∷ 2 ∷ []) [] 4 0 (0 ∷ [])
    ∷ resend (1 ∷ 3 ∷ 2 ∷ []) [] 16 0 (1 ∷ 0 ∷ 1 ∷ 1 ∷ []) ∷ resend (1 ∷ 3 ∷ 2 ∷ []) [] 15 13 [] ∷ resend (1 ∷ 3 ∷ 2 ∷ []) [] 17 0 (1 ∷ 0 ∷ 1 ∷ 1 ∷ [])
    ∷ resend (1 ∷ 3 ∷ 2 ∷ []) [] 116 0 (1 ∷ 0 ∷ 1 ∷ 1 ∷ []) ∷ resend (2 ∷ 3 ∷ 2 ∷ []) [] 28 0 (2 ∷ 0 ∷ 1 ∷ 1 ∷ 0 ∷ 2 ∷ 2 ∷ [])
    ∷ resend (3 ∷ 3 ∷ 2 ∷ []) [] 28 0 (2 ∷ 0 ∷ 1 ∷ 1 ∷ 0 ∷ 2 ∷ 2 ∷ []) ∷ resend (4 ∷ 3 ∷ 2 ∷ []) [] 28 0 (2 ∷ 0 ∷ 1 ∷ 1 ∷ 0 ∷ 2 ∷ 2 ∷ [])
    ∷ resend (0 ∷ 4 ∷ 2 ∷ []) [] 4 0 (0 ∷ []) ∷ resend (1 ∷ 4 ∷ 2 ∷ []) [] 16 0 (1 ∷ 0 ∷ 1 ∷ 1 ∷ [])
    ∷ resend (2 ∷ 4 ∷ 2 ∷ []) [] 28 0 (2 ∷ 0 ∷ 1 ∷ 1 ∷ 0 ∷ 2 ∷ 2 ∷ []) ∷ resend (2 ∷ 4 ∷ 2 ∷ []) [] 27 13 []
    ∷ resend (2 ∷ 4 ∷ 2 ∷ []) [] 29 0 (2 ∷ 0 ∷ 1 ∷ 1 ∷ 0 ∷ 2 ∷ 2 ∷ []) ∷ resend (2 ∷ 4 ∷ 2 ∷ []) [] 128 0 (2 ∷ 0 ∷ 1 ∷ 1 ∷ 0 ∷ 2 ∷ 2 ∷ [])
    ∷ resend (3 ∷ 4 ∷ 2 ∷ []) [] 28 0 (2 ∷ 0 ∷ 1 ∷ 1 ∷ 0 ∷ 2 ∷ 2 ∷ []) ∷ resend (4 ∷ 4 ∷ 2 ∷ []) [] 28 0 (2 ∷ 0 ∷ 1 ∷ 1 ∷ 0 ∷ 2 ∷ 2 ∷ []) ∷ []) ∷ []

pub resend_cuts_agree : Agree resend_cuts
unfolding fresh_on step_on line_on failed_on resend_on layout decoded well_laid word put_word put_words failure_answer failure_line rounds round ones ones_in in_transit
resend_cuts_agree = refl

-- The rows of resend, in order.
abbrev resend_rows : List Script
resend_rows = script table72 (resend [] [] 0 12 [] ∷ resend [] [] 100 12 [] ∷ resend (0 ∷ []) [] 0 12 [] ∷ resend (0 ∷ []) [] 100 12 []
    ∷ resend (0 ∷ []) (0 ∷ 0 ∷ 0 ∷ []) 0 12 [] ∷ resend (0 ∷ []) (0 ∷ 0 ∷ 0 ∷ []) 100 12 [] ∷ resend (0 ∷ 0 ∷ []) (0 ∷ []) 0 12 []
    ∷ resend (0 ∷ 0 ∷ []) (0 ∷ []) 100 12 [] ∷ resend (0 ∷ 0 ∷ 0 ∷ []) [] 0 12 [] ∷ resend (0 ∷ 0 ∷ 0 ∷ []) [] 100 12 [] ∷ resend (3 ∷ 0 ∷ []) [] 0 12 []
    ∷ resend (3 ∷ 0 ∷ []) [] 100 12 [] ∷ resend (0 ∷ 2 ∷ []) [] 0 12 [] ∷ resend (0 ∷ 2 ∷ []) [] 100 12 [] ∷ resend (2 ∷ 2 ∷ []) [] 0 12 []
    ∷ resend (2 ∷ 2 ∷ []) [] 100 12 [] ∷ resend (3 ∷ 1 ∷ []) [] 0 12 [] ∷ resend (3 ∷ 1 ∷ []) [] 100 12 [] ∷ resend (16777216 ∷ 0 ∷ []) [] 0 12 []
    ∷ resend (16777216 ∷ 0 ∷ []) [] 100 12 [] ∷ resend (0 ∷ 16777216 ∷ []) [] 0 12 [] ∷ resend (0 ∷ 16777216 ∷ []) [] 100 12 []
    ∷ resend (2147483648 ∷ 1 ∷ []) [] 0 12 [] ∷ resend (2147483648 ∷ 1 ∷ []) [] 100 12 [] ∷ resend (0 ∷ 4294967295 ∷ []) [] 0 12 []
    ∷ resend (0 ∷ 4294967295 ∷ []) [] 100 12 [] ∷ resend (0 ∷ 0 ∷ []) [] 4 0 (0 ∷ []) ∷ resend (0 ∷ 0 ∷ []) [] 3 13 [] ∷ resend (0 ∷ 0 ∷ []) [] 5 0 (0 ∷ [])
    ∷ resend (0 ∷ 0 ∷ []) [] 104 0 (0 ∷ []) ∷ resend (0 ∷ 0 ∷ []) [] 0 13 [] ∷ resend (0 ∷ 0 ∷ []) [] 3 13 []
    ∷ resend (2 ∷ 0 ∷ []) [] 16 0 (1 ∷ 0 ∷ 1 ∷ 1 ∷ []) ∷ resend (2 ∷ 0 ∷ []) [] 15 13 [] ∷ resend (2 ∷ 0 ∷ []) [] 17 0 (1 ∷ 0 ∷ 1 ∷ 1 ∷ [])
    ∷ resend (2 ∷ 0 ∷ []) [] 116 0 (1 ∷ 0 ∷ 1 ∷ 1 ∷ []) ∷ resend (2 ∷ 0 ∷ []) [] 0 13 [] ∷ resend (2 ∷ 0 ∷ []) [] 3 13 []
    ∷ resend (2 ∷ 1 ∷ []) [] 4 0 (0 ∷ []) ∷ resend (2 ∷ 1 ∷ []) [] 3 13 [] ∷ resend (2 ∷ 1 ∷ []) [] 5 0 (0 ∷ []) ∷ resend (2 ∷ 1 ∷ []) [] 104 0 (0 ∷ [])
    ∷ resend (2 ∷ 1 ∷ []) [] 0 13 [] ∷ resend (2 ∷ 1 ∷ []) [] 3 13 [] ∷ resend (0 ∷ 1 ∷ []) [] 4 0 (0 ∷ []) ∷ resend (0 ∷ 1 ∷ []) [] 3 13 []
    ∷ resend (0 ∷ 1 ∷ []) [] 5 0 (0 ∷ []) ∷ resend (0 ∷ 1 ∷ []) [] 104 0 (0 ∷ []) ∷ resend (0 ∷ 1 ∷ []) [] 0 13 [] ∷ resend (0 ∷ 1 ∷ []) [] 3 13 [] ∷ []) ∷ []

pub resend_rows_agree : Agree resend_rows
unfolding fresh_on step_on line_on failed_on resend_on layout decoded well_laid word put_word put_words failure_answer failure_line rounds round ones ones_in in_transit
resend_rows_agree = refl

-- Resend on the tables that the runs left.
abbrev resend_made : List Script
resend_made = script table107 (resend (0 ∷ []) [] 4 0 (0 ∷ []) ∷ resend (0 ∷ []) [] 3 13 [] ∷ resend (1 ∷ []) [] 4 0 (0 ∷ []) ∷ resend (1 ∷ []) [] 3 13 []
    ∷ resend (1 ∷ []) [] 5 0 (0 ∷ []) ∷ resend (1 ∷ []) [] 4 0 (0 ∷ []) ∷ resend (1 ∷ []) [] 0 13 [] ∷ resend (1 ∷ []) [] 4 0 (0 ∷ [])
    ∷ resend (1 ∷ []) [] 5 0 (0 ∷ []) ∷ resend (2 ∷ []) [] 4 12 [] ∷ []) ∷ script table109 (resend (0 ∷ []) [] 4 0 (0 ∷ []) ∷ resend (0 ∷ []) [] 3 13 []
    ∷ resend (1 ∷ []) [] 4 0 (0 ∷ []) ∷ resend (1 ∷ []) [] 3 13 [] ∷ resend (1 ∷ []) [] 5 0 (0 ∷ []) ∷ resend (0 ∷ []) [] 4 0 (0 ∷ [])
    ∷ resend (0 ∷ []) [] 3 13 [] ∷ resend (1 ∷ []) [] 4 0 (0 ∷ []) ∷ resend (1 ∷ []) [] 5 0 (0 ∷ []) ∷ resend (2 ∷ []) [] 4 12 [] ∷ [])
    ∷ script table112 (resend (0 ∷ 0 ∷ []) [] 4 0 (0 ∷ []) ∷ resend (0 ∷ 0 ∷ []) [] 3 13 [] ∷ resend (1 ∷ 1 ∷ []) [] 4 0 (0 ∷ [])
    ∷ resend (1 ∷ 1 ∷ []) [] 3 13 [] ∷ resend (1 ∷ 1 ∷ []) [] 5 0 (0 ∷ []) ∷ resend (0 ∷ 1 ∷ []) [] 4 0 (0 ∷ [])
    ∷ resend (1 ∷ 0 ∷ []) [] 16 0 (1 ∷ 0 ∷ 1 ∷ 1 ∷ []) ∷ resend (1 ∷ 0 ∷ []) [] 15 13 [] ∷ resend (1 ∷ 0 ∷ []) [] 16 0 (1 ∷ 0 ∷ 1 ∷ 1 ∷ [])
    ∷ resend (1 ∷ 0 ∷ []) [] 12 13 [] ∷ resend (2 ∷ 1 ∷ []) [] 4 12 [] ∷ []) ∷ script table119 (resend (0 ∷ 0 ∷ []) [] 4 0 (0 ∷ [])
    ∷ resend (0 ∷ 0 ∷ []) [] 3 13 [] ∷ resend (3 ∷ 3 ∷ []) [] 28 0 (2 ∷ 0 ∷ 3 ∷ 1 ∷ 1 ∷ 1 ∷ 0 ∷ []) ∷ resend (3 ∷ 3 ∷ []) [] 27 13 []
    ∷ resend (3 ∷ 3 ∷ []) [] 29 0 (2 ∷ 0 ∷ 3 ∷ 1 ∷ 1 ∷ 1 ∷ 0 ∷ []) ∷ resend (0 ∷ 3 ∷ []) [] 16 0 (1 ∷ 1 ∷ 1 ∷ 0 ∷ [])
    ∷ resend (2 ∷ 0 ∷ []) [] 28 0 (2 ∷ 0 ∷ 1 ∷ 1 ∷ 0 ∷ 2 ∷ 1 ∷ []) ∷ resend (2 ∷ 0 ∷ []) [] 24 13 []
    ∷ resend (3 ∷ 3 ∷ []) [] 28 0 (2 ∷ 0 ∷ 3 ∷ 1 ∷ 1 ∷ 1 ∷ 0 ∷ []) ∷ resend (3 ∷ 3 ∷ []) [] 128 0 (2 ∷ 0 ∷ 3 ∷ 1 ∷ 1 ∷ 1 ∷ 0 ∷ [])
    ∷ resend (3 ∷ 4 ∷ []) [] 4 12 [] ∷ []) ∷ script table127 (resend (0 ∷ 0 ∷ []) [] 4 0 (0 ∷ []) ∷ resend (0 ∷ 0 ∷ []) [] 3 13 []
    ∷ resend (4 ∷ 4 ∷ []) [] 4 0 (0 ∷ []) ∷ resend (4 ∷ 4 ∷ []) [] 3 13 [] ∷ resend (4 ∷ 4 ∷ []) [] 5 0 (0 ∷ []) ∷ resend (0 ∷ 4 ∷ []) [] 4 0 (0 ∷ [])
    ∷ resend (0 ∷ 4 ∷ []) [] 4 0 (0 ∷ []) ∷ resend (0 ∷ 4 ∷ []) [] 104 0 (0 ∷ []) ∷ resend (2 ∷ 2 ∷ []) [] 16 0 (1 ∷ 0 ∷ 2 ∷ 1 ∷ [])
    ∷ resend (2 ∷ 2 ∷ []) [] 15 13 [] ∷ resend (5 ∷ 4 ∷ []) [] 4 12 [] ∷ []) ∷ script table140 (resend (0 ∷ 0 ∷ []) [] 4 0 (0 ∷ [])
    ∷ resend (0 ∷ 0 ∷ []) [] 3 13 [] ∷ resend (6 ∷ 6 ∷ []) [] 4 0 (0 ∷ []) ∷ resend (6 ∷ 6 ∷ []) [] 3 13 [] ∷ resend (6 ∷ 6 ∷ []) [] 5 0 (0 ∷ [])
    ∷ resend (6 ∷ 0 ∷ []) [] 40 0 (3 ∷ 0 ∷ 1 ∷ 1 ∷ 0 ∷ 2 ∷ 1 ∷ 0 ∷ 3 ∷ 1 ∷ []) ∷ resend (6 ∷ 1 ∷ []) [] 40 0 (3 ∷ 0 ∷ 1 ∷ 1 ∷ 0 ∷ 2 ∷ 1 ∷ 0 ∷ 3 ∷ 1 ∷ [])
    ∷ resend (6 ∷ 1 ∷ []) [] 140 0 (3 ∷ 0 ∷ 1 ∷ 1 ∷ 0 ∷ 2 ∷ 1 ∷ 0 ∷ 3 ∷ 1 ∷ []) ∷ resend (0 ∷ 0 ∷ []) [] 4 0 (0 ∷ []) ∷ resend (0 ∷ 0 ∷ []) [] 104 0 (0 ∷ [])
    ∷ resend (7 ∷ 6 ∷ []) [] 4 12 [] ∷ []) ∷ script table147 (resend (0 ∷ 0 ∷ 0 ∷ []) [] 4 0 (0 ∷ []) ∷ resend (0 ∷ 0 ∷ 0 ∷ []) [] 3 13 []
    ∷ resend (2 ∷ 2 ∷ 2 ∷ []) [] 64 0 (5 ∷ 0 ∷ 1 ∷ 2 ∷ 0 ∷ 2 ∷ 2 ∷ 1 ∷ 1 ∷ 2 ∷ 1 ∷ 2 ∷ 0 ∷ 2 ∷ 1 ∷ 0 ∷ []) ∷ resend (2 ∷ 2 ∷ 2 ∷ []) [] 63 13 []
    ∷ resend (2 ∷ 2 ∷ 2 ∷ []) [] 65 0 (5 ∷ 0 ∷ 1 ∷ 2 ∷ 0 ∷ 2 ∷ 2 ∷ 1 ∷ 1 ∷ 2 ∷ 1 ∷ 2 ∷ 0 ∷ 2 ∷ 1 ∷ 0 ∷ []) ∷ resend (0 ∷ 0 ∷ 0 ∷ []) [] 4 0 (0 ∷ [])
    ∷ resend (0 ∷ 0 ∷ 0 ∷ []) [] 5 0 (0 ∷ []) ∷ resend (1 ∷ 2 ∷ 1 ∷ []) [] 40 0 (3 ∷ 0 ∷ 1 ∷ 2 ∷ 1 ∷ 1 ∷ 2 ∷ 1 ∷ 2 ∷ 0 ∷ [])
    ∷ resend (1 ∷ 2 ∷ 1 ∷ []) [] 39 13 [] ∷ resend (2 ∷ 3 ∷ 2 ∷ []) [] 4 12 [] ∷ []) ∷ script table155 (resend (0 ∷ 0 ∷ 0 ∷ []) [] 4 0 (0 ∷ [])
    ∷ resend (0 ∷ 0 ∷ 0 ∷ []) [] 3 13 [] ∷ resend (1 ∷ 3 ∷ 3 ∷ []) [] 16 0 (1 ∷ 0 ∷ 1 ∷ 1 ∷ []) ∷ resend (1 ∷ 3 ∷ 3 ∷ []) [] 15 13 []
    ∷ resend (1 ∷ 3 ∷ 3 ∷ []) [] 17 0 (1 ∷ 0 ∷ 1 ∷ 1 ∷ []) ∷ resend (1 ∷ 3 ∷ 0 ∷ []) [] 16 0 (1 ∷ 0 ∷ 1 ∷ 1 ∷ [])
    ∷ resend (1 ∷ 3 ∷ 3 ∷ []) [] 16 0 (1 ∷ 0 ∷ 1 ∷ 1 ∷ []) ∷ resend (1 ∷ 3 ∷ 3 ∷ []) [] 17 0 (1 ∷ 0 ∷ 1 ∷ 1 ∷ []) ∷ resend (0 ∷ 0 ∷ 0 ∷ []) [] 4 0 (0 ∷ [])
    ∷ resend (0 ∷ 0 ∷ 0 ∷ []) [] 104 0 (0 ∷ []) ∷ resend (2 ∷ 3 ∷ 3 ∷ []) [] 4 12 [] ∷ []) ∷ script table168 (resend (0 ∷ 0 ∷ 0 ∷ []) [] 4 0 (0 ∷ [])
    ∷ resend (0 ∷ 0 ∷ 0 ∷ []) [] 3 13 [] ∷ resend (4 ∷ 4 ∷ 4 ∷ []) [] 28 0 (2 ∷ 0 ∷ 1 ∷ 2 ∷ 0 ∷ 2 ∷ 1 ∷ []) ∷ resend (4 ∷ 4 ∷ 4 ∷ []) [] 27 13 []
    ∷ resend (4 ∷ 4 ∷ 4 ∷ []) [] 29 0 (2 ∷ 0 ∷ 1 ∷ 2 ∷ 0 ∷ 2 ∷ 1 ∷ [])
    ∷ resend (4 ∷ 4 ∷ 0 ∷ []) [] 52 0 (4 ∷ 0 ∷ 1 ∷ 2 ∷ 0 ∷ 2 ∷ 1 ∷ 0 ∷ 3 ∷ 2 ∷ 1 ∷ 1 ∷ 2 ∷ [])
    ∷ resend (4 ∷ 4 ∷ 2 ∷ []) [] 40 0 (3 ∷ 0 ∷ 1 ∷ 2 ∷ 0 ∷ 2 ∷ 1 ∷ 0 ∷ 3 ∷ 2 ∷ []) ∷ resend (4 ∷ 4 ∷ 2 ∷ []) [] 36 13 []
    ∷ resend (4 ∷ 4 ∷ 4 ∷ []) [] 28 0 (2 ∷ 0 ∷ 1 ∷ 2 ∷ 0 ∷ 2 ∷ 1 ∷ []) ∷ resend (4 ∷ 4 ∷ 4 ∷ []) [] 27 13 [] ∷ resend (4 ∷ 4 ∷ 5 ∷ []) [] 4 12 [] ∷ [])
    ∷ script table184 (resend (0 ∷ 0 ∷ 0 ∷ []) [] 4 0 (0 ∷ []) ∷ resend (0 ∷ 0 ∷ 0 ∷ []) [] 3 13 []
    ∷ resend (4 ∷ 6 ∷ 6 ∷ []) [] 88 0 (7 ∷ 1 ∷ 1 ∷ 2 ∷ 1 ∷ 3 ∷ 2 ∷ 1 ∷ 4 ∷ 2 ∷ 1 ∷ 5 ∷ 2 ∷ 2 ∷ 2 ∷ 1 ∷ 2 ∷ 4 ∷ 1 ∷ 2 ∷ 5 ∷ 1 ∷ [])
    ∷ resend (4 ∷ 6 ∷ 6 ∷ []) [] 87 13 []
    ∷ resend (4 ∷ 6 ∷ 6 ∷ []) [] 89 0 (7 ∷ 1 ∷ 1 ∷ 2 ∷ 1 ∷ 3 ∷ 2 ∷ 1 ∷ 4 ∷ 2 ∷ 1 ∷ 5 ∷ 2 ∷ 2 ∷ 2 ∷ 1 ∷ 2 ∷ 4 ∷ 1 ∷ 2 ∷ 5 ∷ 1 ∷ [])
    ∷ resend (4 ∷ 6 ∷ 0 ∷ []) [] 64 0 (5 ∷ 1 ∷ 1 ∷ 2 ∷ 1 ∷ 2 ∷ 2 ∷ 1 ∷ 3 ∷ 2 ∷ 1 ∷ 4 ∷ 2 ∷ 1 ∷ 5 ∷ 2 ∷ [])
    ∷ resend (3 ∷ 4 ∷ 2 ∷ []) [] 52 0 (4 ∷ 1 ∷ 1 ∷ 2 ∷ 1 ∷ 2 ∷ 2 ∷ 1 ∷ 3 ∷ 2 ∷ 2 ∷ 2 ∷ 1 ∷ [])
    ∷ resend (3 ∷ 4 ∷ 2 ∷ []) [] 53 0 (4 ∷ 1 ∷ 1 ∷ 2 ∷ 1 ∷ 2 ∷ 2 ∷ 1 ∷ 3 ∷ 2 ∷ 2 ∷ 2 ∷ 1 ∷ [])
    ∷ resend (0 ∷ 6 ∷ 0 ∷ []) [] 64 0 (5 ∷ 1 ∷ 1 ∷ 2 ∷ 1 ∷ 2 ∷ 2 ∷ 1 ∷ 3 ∷ 2 ∷ 1 ∷ 4 ∷ 2 ∷ 1 ∷ 5 ∷ 2 ∷ [])
    ∷ resend (0 ∷ 6 ∷ 0 ∷ []) [] 164 0 (5 ∷ 1 ∷ 1 ∷ 2 ∷ 1 ∷ 2 ∷ 2 ∷ 1 ∷ 3 ∷ 2 ∷ 1 ∷ 4 ∷ 2 ∷ 1 ∷ 5 ∷ 2 ∷ []) ∷ resend (5 ∷ 6 ∷ 6 ∷ []) [] 4 12 [] ∷ []) ∷ []

pub resend_made_agree : Agree resend_made
unfolding fresh_on step_on line_on failed_on resend_on layout decoded well_laid word put_word put_words failure_answer failure_line rounds round ones ones_in in_transit
resend_made_agree = refl

-- Resend on the well laid tables that no run makes.
abbrev resend_unmade : List Script
resend_unmade = script table185 (resend (0 ∷ []) [] 4 0 (0 ∷ []) ∷ resend (0 ∷ []) [] 3 13 [] ∷ resend (1 ∷ []) [] 4 0 (0 ∷ []) ∷ resend (1 ∷ []) [] 3 13 []
    ∷ resend (1 ∷ []) [] 5 0 (0 ∷ []) ∷ resend (0 ∷ []) [] 4 0 (0 ∷ []) ∷ resend (0 ∷ []) [] 104 0 (0 ∷ []) ∷ resend (0 ∷ []) [] 4 0 (0 ∷ [])
    ∷ resend (0 ∷ []) [] 104 0 (0 ∷ []) ∷ resend (2 ∷ []) [] 4 12 [] ∷ []) ∷ script table186 (resend (0 ∷ []) [] 4 0 (0 ∷ []) ∷ resend (0 ∷ []) [] 3 13 []
    ∷ resend (1 ∷ []) [] 4 0 (0 ∷ []) ∷ resend (1 ∷ []) [] 3 13 [] ∷ resend (1 ∷ []) [] 5 0 (0 ∷ []) ∷ resend (0 ∷ []) [] 4 0 (0 ∷ [])
    ∷ resend (0 ∷ []) [] 0 13 [] ∷ resend (0 ∷ []) [] 4 0 (0 ∷ []) ∷ resend (0 ∷ []) [] 5 0 (0 ∷ []) ∷ resend (2 ∷ []) [] 4 12 [] ∷ [])
    ∷ script table189 (resend (0 ∷ 0 ∷ []) [] 4 0 (0 ∷ []) ∷ resend (0 ∷ 0 ∷ []) [] 3 13 [] ∷ resend (1 ∷ 0 ∷ []) [] 4 0 (0 ∷ [])
    ∷ resend (1 ∷ 0 ∷ []) [] 3 13 [] ∷ resend (1 ∷ 0 ∷ []) [] 5 0 (0 ∷ []) ∷ resend (0 ∷ 0 ∷ []) [] 4 0 (0 ∷ []) ∷ resend (0 ∷ 0 ∷ []) [] 104 0 (0 ∷ [])
    ∷ resend (0 ∷ 0 ∷ []) [] 4 0 (0 ∷ []) ∷ resend (0 ∷ 0 ∷ []) [] 5 0 (0 ∷ []) ∷ resend (1 ∷ 1 ∷ []) [] 4 12 [] ∷ [])
    ∷ script table191 (resend (0 ∷ 0 ∷ []) [] 4 0 (0 ∷ []) ∷ resend (0 ∷ 0 ∷ []) [] 3 13 [] ∷ resend (2 ∷ 1 ∷ []) [] 16 0 (1 ∷ 0 ∷ 1 ∷ 1 ∷ [])
    ∷ resend (2 ∷ 1 ∷ []) [] 15 13 [] ∷ resend (2 ∷ 1 ∷ []) [] 17 0 (1 ∷ 0 ∷ 1 ∷ 1 ∷ []) ∷ resend (2 ∷ 0 ∷ []) [] 16 0 (1 ∷ 0 ∷ 1 ∷ 1 ∷ [])
    ∷ resend (2 ∷ 0 ∷ []) [] 16 0 (1 ∷ 0 ∷ 1 ∷ 1 ∷ []) ∷ resend (2 ∷ 0 ∷ []) [] 12 13 [] ∷ resend (2 ∷ 0 ∷ []) [] 16 0 (1 ∷ 0 ∷ 1 ∷ 1 ∷ [])
    ∷ resend (2 ∷ 0 ∷ []) [] 12 13 [] ∷ resend (3 ∷ 1 ∷ []) [] 4 12 [] ∷ []) ∷ script table193 (resend (0 ∷ 0 ∷ []) [] 4 0 (0 ∷ [])
    ∷ resend (0 ∷ 0 ∷ []) [] 3 13 [] ∷ resend (3 ∷ 2 ∷ []) [] 4 0 (0 ∷ []) ∷ resend (3 ∷ 2 ∷ []) [] 3 13 [] ∷ resend (3 ∷ 2 ∷ []) [] 5 0 (0 ∷ [])
    ∷ resend (3 ∷ 0 ∷ []) [] 4 0 (0 ∷ []) ∷ resend (1 ∷ 0 ∷ []) [] 4 0 (0 ∷ []) ∷ resend (1 ∷ 0 ∷ []) [] 0 13 [] ∷ resend (3 ∷ 2 ∷ []) [] 4 0 (0 ∷ [])
    ∷ resend (3 ∷ 2 ∷ []) [] 0 13 [] ∷ resend (4 ∷ 2 ∷ []) [] 4 12 [] ∷ []) ∷ script table195 (resend (0 ∷ 0 ∷ []) [] 4 0 (0 ∷ [])
    ∷ resend (0 ∷ 0 ∷ []) [] 3 13 [] ∷ resend (4 ∷ 3 ∷ []) [] 16 0 (1 ∷ 0 ∷ 1 ∷ 1 ∷ []) ∷ resend (4 ∷ 3 ∷ []) [] 15 13 []
    ∷ resend (4 ∷ 3 ∷ []) [] 17 0 (1 ∷ 0 ∷ 1 ∷ 1 ∷ []) ∷ resend (0 ∷ 3 ∷ []) [] 4 0 (0 ∷ []) ∷ resend (3 ∷ 3 ∷ []) [] 16 0 (1 ∷ 0 ∷ 1 ∷ 1 ∷ [])
    ∷ resend (3 ∷ 3 ∷ []) [] 15 13 [] ∷ resend (2 ∷ 1 ∷ []) [] 16 0 (1 ∷ 0 ∷ 1 ∷ 1 ∷ []) ∷ resend (2 ∷ 1 ∷ []) [] 17 0 (1 ∷ 0 ∷ 1 ∷ 1 ∷ [])
    ∷ resend (5 ∷ 3 ∷ []) [] 4 12 [] ∷ []) ∷ script table197 (resend (0 ∷ 0 ∷ []) [] 4 0 (0 ∷ []) ∷ resend (0 ∷ 0 ∷ []) [] 3 13 []
    ∷ resend (4 ∷ 4 ∷ []) [] 52 0 (4 ∷ 0 ∷ 1 ∷ 1 ∷ 1 ∷ 1 ∷ 0 ∷ 1 ∷ 3 ∷ 0 ∷ 1 ∷ 4 ∷ 0 ∷ []) ∷ resend (4 ∷ 4 ∷ []) [] 51 13 []
    ∷ resend (4 ∷ 4 ∷ []) [] 53 0 (4 ∷ 0 ∷ 1 ∷ 1 ∷ 1 ∷ 1 ∷ 0 ∷ 1 ∷ 3 ∷ 0 ∷ 1 ∷ 4 ∷ 0 ∷ []) ∷ resend (4 ∷ 0 ∷ []) [] 16 0 (1 ∷ 0 ∷ 1 ∷ 1 ∷ [])
    ∷ resend (0 ∷ 4 ∷ []) [] 52 0 (4 ∷ 1 ∷ 1 ∷ 0 ∷ 1 ∷ 2 ∷ 0 ∷ 1 ∷ 3 ∷ 0 ∷ 1 ∷ 4 ∷ 0 ∷ []) ∷ resend (0 ∷ 4 ∷ []) [] 51 13 []
    ∷ resend (2 ∷ 2 ∷ []) [] 40 0 (3 ∷ 0 ∷ 1 ∷ 1 ∷ 1 ∷ 1 ∷ 0 ∷ 1 ∷ 2 ∷ 0 ∷ []) ∷ resend (2 ∷ 2 ∷ []) [] 41 0 (3 ∷ 0 ∷ 1 ∷ 1 ∷ 1 ∷ 1 ∷ 0 ∷ 1 ∷ 2 ∷ 0 ∷ [])
    ∷ resend (4 ∷ 5 ∷ []) [] 4 12 [] ∷ []) ∷ script table200 (resend (0 ∷ 0 ∷ []) [] 4 0 (0 ∷ []) ∷ resend (0 ∷ 0 ∷ []) [] 3 13 []
    ∷ resend (5 ∷ 5 ∷ []) [] 52 0 (4 ∷ 0 ∷ 1 ∷ 1 ∷ 1 ∷ 1 ∷ 0 ∷ 1 ∷ 2 ∷ 0 ∷ 1 ∷ 3 ∷ 0 ∷ []) ∷ resend (5 ∷ 5 ∷ []) [] 51 13 []
    ∷ resend (5 ∷ 5 ∷ []) [] 53 0 (4 ∷ 0 ∷ 1 ∷ 1 ∷ 1 ∷ 1 ∷ 0 ∷ 1 ∷ 2 ∷ 0 ∷ 1 ∷ 3 ∷ 0 ∷ [])
    ∷ resend (0 ∷ 5 ∷ []) [] 40 0 (3 ∷ 1 ∷ 1 ∷ 0 ∷ 1 ∷ 2 ∷ 0 ∷ 1 ∷ 3 ∷ 0 ∷ []) ∷ resend (5 ∷ 1 ∷ []) [] 16 0 (1 ∷ 0 ∷ 1 ∷ 1 ∷ [])
    ∷ resend (5 ∷ 1 ∷ []) [] 116 0 (1 ∷ 0 ∷ 1 ∷ 1 ∷ []) ∷ resend (5 ∷ 5 ∷ []) [] 52 0 (4 ∷ 0 ∷ 1 ∷ 1 ∷ 1 ∷ 1 ∷ 0 ∷ 1 ∷ 2 ∷ 0 ∷ 1 ∷ 3 ∷ 0 ∷ [])
    ∷ resend (5 ∷ 5 ∷ []) [] 152 0 (4 ∷ 0 ∷ 1 ∷ 1 ∷ 1 ∷ 1 ∷ 0 ∷ 1 ∷ 2 ∷ 0 ∷ 1 ∷ 3 ∷ 0 ∷ []) ∷ resend (5 ∷ 6 ∷ []) [] 4 12 [] ∷ [])
    ∷ script table203 (resend (0 ∷ 0 ∷ 0 ∷ []) [] 4 0 (0 ∷ []) ∷ resend (0 ∷ 0 ∷ 0 ∷ []) [] 3 13 [] ∷ resend (0 ∷ 0 ∷ 1 ∷ []) [] 4 0 (0 ∷ [])
    ∷ resend (0 ∷ 0 ∷ 1 ∷ []) [] 3 13 [] ∷ resend (0 ∷ 0 ∷ 1 ∷ []) [] 5 0 (0 ∷ []) ∷ resend (0 ∷ 0 ∷ 1 ∷ []) [] 4 0 (0 ∷ [])
    ∷ resend (0 ∷ 0 ∷ 1 ∷ []) [] 3 13 [] ∷ resend (0 ∷ 0 ∷ 1 ∷ []) [] 4 0 (0 ∷ []) ∷ resend (0 ∷ 0 ∷ 1 ∷ []) [] 3 13 [] ∷ resend (0 ∷ 1 ∷ 1 ∷ []) [] 4 12 []
    ∷ []) ∷ script table209 (resend (0 ∷ 0 ∷ 0 ∷ []) [] 4 0 (0 ∷ []) ∷ resend (0 ∷ 0 ∷ 0 ∷ []) [] 3 13 [] ∷ resend (1 ∷ 3 ∷ 3 ∷ []) [] 4 0 (0 ∷ [])
    ∷ resend (1 ∷ 3 ∷ 3 ∷ []) [] 3 13 [] ∷ resend (1 ∷ 3 ∷ 3 ∷ []) [] 5 0 (0 ∷ []) ∷ resend (1 ∷ 0 ∷ 3 ∷ []) [] 4 0 (0 ∷ [])
    ∷ resend (1 ∷ 0 ∷ 2 ∷ []) [] 4 0 (0 ∷ []) ∷ resend (1 ∷ 0 ∷ 2 ∷ []) [] 5 0 (0 ∷ []) ∷ resend (1 ∷ 3 ∷ 3 ∷ []) [] 4 0 (0 ∷ [])
    ∷ resend (1 ∷ 3 ∷ 3 ∷ []) [] 3 13 [] ∷ resend (2 ∷ 3 ∷ 3 ∷ []) [] 4 12 [] ∷ []) ∷ script table211 (resend (0 ∷ 0 ∷ 0 ∷ []) [] 4 0 (0 ∷ [])
    ∷ resend (0 ∷ 0 ∷ 0 ∷ []) [] 3 13 [] ∷ resend (3 ∷ 4 ∷ 3 ∷ []) [] 76 0 (6 ∷ 0 ∷ 1 ∷ 2 ∷ 0 ∷ 2 ∷ 1 ∷ 1 ∷ 1 ∷ 2 ∷ 1 ∷ 2 ∷ 0 ∷ 2 ∷ 1 ∷ 1 ∷ 2 ∷ 2 ∷ 1 ∷ [])
    ∷ resend (3 ∷ 4 ∷ 3 ∷ []) [] 75 13 [] ∷ resend (3 ∷ 4 ∷ 3 ∷ []) [] 77 0 (6 ∷ 0 ∷ 1 ∷ 2 ∷ 0 ∷ 2 ∷ 1 ∷ 1 ∷ 1 ∷ 2 ∷ 1 ∷ 2 ∷ 0 ∷ 2 ∷ 1 ∷ 1 ∷ 2 ∷ 2 ∷ 1 ∷ [])
    ∷ resend (0 ∷ 4 ∷ 3 ∷ []) [] 52 0 (4 ∷ 1 ∷ 1 ∷ 2 ∷ 1 ∷ 2 ∷ 0 ∷ 2 ∷ 1 ∷ 1 ∷ 2 ∷ 2 ∷ 1 ∷ []) ∷ resend (1 ∷ 0 ∷ 1 ∷ []) [] 16 0 (1 ∷ 2 ∷ 1 ∷ 1 ∷ [])
    ∷ resend (1 ∷ 0 ∷ 1 ∷ []) [] 15 13 [] ∷ resend (1 ∷ 3 ∷ 3 ∷ []) [] 52 0 (4 ∷ 1 ∷ 1 ∷ 2 ∷ 1 ∷ 2 ∷ 0 ∷ 2 ∷ 1 ∷ 1 ∷ 2 ∷ 2 ∷ 1 ∷ [])
    ∷ resend (1 ∷ 3 ∷ 3 ∷ []) [] 152 0 (4 ∷ 1 ∷ 1 ∷ 2 ∷ 1 ∷ 2 ∷ 0 ∷ 2 ∷ 1 ∷ 1 ∷ 2 ∷ 2 ∷ 1 ∷ []) ∷ resend (3 ∷ 4 ∷ 4 ∷ []) [] 4 12 [] ∷ [])
    ∷ script table214 (resend (0 ∷ 0 ∷ 0 ∷ []) [] 4 0 (0 ∷ []) ∷ resend (0 ∷ 0 ∷ 0 ∷ []) [] 3 13 []
    ∷ resend (3 ∷ 4 ∷ 1 ∷ []) [] 64 0 (5 ∷ 0 ∷ 1 ∷ 1 ∷ 0 ∷ 2 ∷ 1 ∷ 1 ∷ 1 ∷ 0 ∷ 1 ∷ 2 ∷ 2 ∷ 1 ∷ 3 ∷ 2 ∷ []) ∷ resend (3 ∷ 4 ∷ 1 ∷ []) [] 63 13 []
    ∷ resend (3 ∷ 4 ∷ 1 ∷ []) [] 65 0 (5 ∷ 0 ∷ 1 ∷ 1 ∷ 0 ∷ 2 ∷ 1 ∷ 1 ∷ 1 ∷ 0 ∷ 1 ∷ 2 ∷ 2 ∷ 1 ∷ 3 ∷ 2 ∷ [])
    ∷ resend (0 ∷ 4 ∷ 1 ∷ []) [] 40 0 (3 ∷ 1 ∷ 1 ∷ 0 ∷ 1 ∷ 2 ∷ 2 ∷ 1 ∷ 3 ∷ 2 ∷ [])
    ∷ resend (2 ∷ 2 ∷ 0 ∷ []) [] 40 0 (3 ∷ 0 ∷ 1 ∷ 1 ∷ 0 ∷ 2 ∷ 1 ∷ 1 ∷ 1 ∷ 0 ∷ []) ∷ resend (2 ∷ 2 ∷ 0 ∷ []) [] 36 13 []
    ∷ resend (2 ∷ 1 ∷ 0 ∷ []) [] 40 0 (3 ∷ 0 ∷ 1 ∷ 1 ∷ 0 ∷ 2 ∷ 1 ∷ 1 ∷ 1 ∷ 0 ∷ []) ∷ resend (2 ∷ 1 ∷ 0 ∷ []) [] 36 13 [] ∷ resend (4 ∷ 4 ∷ 1 ∷ []) [] 4 12 []
    ∷ []) ∷ script table218 (resend (0 ∷ 0 ∷ 0 ∷ []) [] 4 0 (0 ∷ []) ∷ resend (0 ∷ 0 ∷ 0 ∷ []) [] 3 13 []
    ∷ resend (5 ∷ 5 ∷ 4 ∷ []) [] 52 0 (4 ∷ 0 ∷ 1 ∷ 1 ∷ 1 ∷ 1 ∷ 0 ∷ 1 ∷ 2 ∷ 2 ∷ 2 ∷ 1 ∷ 0 ∷ []) ∷ resend (5 ∷ 5 ∷ 4 ∷ []) [] 51 13 []
    ∷ resend (5 ∷ 5 ∷ 4 ∷ []) [] 53 0 (4 ∷ 0 ∷ 1 ∷ 1 ∷ 1 ∷ 1 ∷ 0 ∷ 1 ∷ 2 ∷ 2 ∷ 2 ∷ 1 ∷ 0 ∷ [])
    ∷ resend (0 ∷ 5 ∷ 4 ∷ []) [] 40 0 (3 ∷ 1 ∷ 1 ∷ 0 ∷ 1 ∷ 2 ∷ 2 ∷ 2 ∷ 1 ∷ 0 ∷ [])
    ∷ resend (2 ∷ 5 ∷ 4 ∷ []) [] 40 0 (3 ∷ 1 ∷ 1 ∷ 0 ∷ 1 ∷ 2 ∷ 2 ∷ 2 ∷ 1 ∷ 0 ∷ []) ∷ resend (2 ∷ 5 ∷ 4 ∷ []) [] 36 13 []
    ∷ resend (5 ∷ 5 ∷ 4 ∷ []) [] 52 0 (4 ∷ 0 ∷ 1 ∷ 1 ∷ 1 ∷ 1 ∷ 0 ∷ 1 ∷ 2 ∷ 2 ∷ 2 ∷ 1 ∷ 0 ∷ []) ∷ resend (5 ∷ 5 ∷ 4 ∷ []) [] 51 13 []
    ∷ resend (6 ∷ 5 ∷ 4 ∷ []) [] 4 12 [] ∷ []) ∷ script table219 (resend (0 ∷ 0 ∷ 0 ∷ []) [] 4 0 (0 ∷ []) ∷ resend (0 ∷ 0 ∷ 0 ∷ []) [] 3 13 []
    ∷ resend (0 ∷ 3 ∷ 6 ∷ []) [] 28 0 (2 ∷ 2 ∷ 1 ∷ 0 ∷ 2 ∷ 2 ∷ 0 ∷ []) ∷ resend (0 ∷ 3 ∷ 6 ∷ []) [] 27 13 []
    ∷ resend (0 ∷ 3 ∷ 6 ∷ []) [] 29 0 (2 ∷ 2 ∷ 1 ∷ 0 ∷ 2 ∷ 2 ∷ 0 ∷ []) ∷ resend (0 ∷ 3 ∷ 6 ∷ []) [] 28 0 (2 ∷ 2 ∷ 1 ∷ 0 ∷ 2 ∷ 2 ∷ 0 ∷ [])
    ∷ resend (0 ∷ 3 ∷ 6 ∷ []) [] 28 0 (2 ∷ 2 ∷ 1 ∷ 0 ∷ 2 ∷ 2 ∷ 0 ∷ []) ∷ resend (0 ∷ 3 ∷ 6 ∷ []) [] 24 13 []
    ∷ resend (0 ∷ 3 ∷ 6 ∷ []) [] 28 0 (2 ∷ 2 ∷ 1 ∷ 0 ∷ 2 ∷ 2 ∷ 0 ∷ []) ∷ resend (0 ∷ 3 ∷ 6 ∷ []) [] 27 13 [] ∷ resend (1 ∷ 3 ∷ 6 ∷ []) [] 4 12 [] ∷ []) ∷ []

pub resend_unmade_agree : Agree resend_unmade
unfolding fresh_on step_on line_on failed_on resend_on layout decoded well_laid word put_word put_words failure_answer failure_line rounds round ones ones_in in_transit
resend_unmade_agree = refl

abbrev table227 : List ℕ
table227 = bytes (2 ∷ 4 ∷ 1 ∷ 1 ∷ 0 ∷ 1 ∷ 1 ∷ 0 ∷ 0 ∷ 0 ∷ 0 ∷ 0 ∷ 0 ∷ 0 ∷ 0 ∷ 0 ∷ 0 ∷ 0 ∷ 0 ∷ 0 ∷ 0 ∷ 0 ∷ 0 ∷ 0 ∷ 0 ∷ 0 ∷ 0 ∷ 0 ∷ 0 ∷ 0 ∷ 0 ∷ 0 ∷ 0 ∷ 0 ∷ 0
    ∷ 0 ∷ 0 ∷ 0 ∷ 0 ∷ 0 ∷ [])

-- Processes that fail at their counts go back.
abbrev saved : List Script
saved = script (lent 160) (accepted (fresh 2 4) 0 [] table14 ∷ accepted (failed 0) 16 (0 ∷ 0 ∷ 0 ∷ 0 ∷ []) table14
    ∷ accepted (failed 1) 16 (0 ∷ 0 ∷ 1 ∷ 1 ∷ []) table14 ∷ accepted (failed 2) 16 (0 ∷ 0 ∷ 2 ∷ 1 ∷ []) table14
    ∷ accepted (failed 3) 16 (0 ∷ 0 ∷ 3 ∷ 2 ∷ []) table14 ∷ refused (failed 4) 16 11 ∷ refused (failed 4294967295) 16 11
    ∷ accepted (step 0 checkpoint) 4 (1 ∷ []) table227 ∷ accepted (failed 0) 16 (1 ∷ 0 ∷ 0 ∷ 0 ∷ []) table227
    ∷ accepted (failed 1) 16 (1 ∷ 0 ∷ 1 ∷ 1 ∷ []) table227 ∷ accepted (failed 2) 16 (1 ∷ 0 ∷ 2 ∷ 1 ∷ []) table227
    ∷ accepted (failed 3) 16 (1 ∷ 0 ∷ 3 ∷ 2 ∷ []) table227 ∷ refused (failed 4) 16 11 ∷ refused (failed 4294967295) 16 11 ∷ []) ∷ []

pub saved_agree : Agree saved
unfolding fresh_on step_on line_on failed_on resend_on layout decoded well_laid word put_word put_words failure_answer failure_line rounds round ones ones_in in_transit
saved_agree = refl

abbrev table228 : List ℕ
table228 = bytes (17 ∷ [])
    ++ (0 ∷ 0 ∷ 0 ∷ [])

abbrev table229 : List ℕ
table229 = bytes (17 ∷ 2 ∷ 1 ∷ 0 ∷ 1 ∷ 3 ∷ 1 ∷ 1 ∷ 0 ∷ 0 ∷ 0 ∷ 0 ∷ 0 ∷ 2 ∷ 0 ∷ 0 ∷ 4 ∷ 0 ∷ 1 ∷ 0 ∷ 0 ∷ 0 ∷ 0 ∷ [])
    ++ (0 ∷ 0 ∷ 0 ∷ [])

abbrev table230 : List ℕ
table230 = bytes (2 ∷ 2 ∷ 1 ∷ 0 ∷ 1 ∷ 3 ∷ 1 ∷ 1 ∷ 0 ∷ 0 ∷ 0 ∷ 0 ∷ 0 ∷ 2 ∷ 0 ∷ 0 ∷ 4 ∷ 0 ∷ 1 ∷ 0 ∷ 0 ∷ 0 ∷ 0 ∷ [])
    ++ (0 ∷ 0 ∷ 0 ∷ [])

abbrev table231 : List ℕ
table231 = bytes (2 ∷ 2 ∷ 1 ∷ 0 ∷ 1 ∷ 3 ∷ 1 ∷ 1 ∷ 0 ∷ 0 ∷ 0 ∷ 0 ∷ 0 ∷ 2 ∷ 0 ∷ 0 ∷ 4 ∷ 0 ∷ 1 ∷ 0 ∷ 0 ∷ 0 ∷ 0 ∷ 0 ∷ [])

abbrev table232 : List ℕ
table232 = bytes (2 ∷ 2 ∷ 1 ∷ 0 ∷ 1 ∷ 3 ∷ 1 ∷ 1 ∷ 0 ∷ 0 ∷ 0 ∷ 0 ∷ 0 ∷ 1 ∷ 0 ∷ 0 ∷ 4 ∷ 0 ∷ 1 ∷ 0 ∷ 0 ∷ 0 ∷ 0 ∷ 0 ∷ [])

abbrev table233 : List ℕ
table233 = bytes (2 ∷ 2 ∷ 1 ∷ 0 ∷ 1 ∷ 3 ∷ 1 ∷ 1 ∷ 0 ∷ 0 ∷ 0 ∷ 0 ∷ 0 ∷ 1 ∷ 0 ∷ 0 ∷ 4 ∷ 0 ∷ 2 ∷ 0 ∷ 0 ∷ 0 ∷ 0 ∷ 0 ∷ [])

-- The rows of the audit, in order.
abbrev audit_rows : List Script
audit_rows = script table228 (audit 4 96 2 [] ∷ audit 3 0 2 [] ∷ []) ∷ script table229 (audit 4 96 1 [] ∷ audit 3 0 1 [] ∷ [])
    ∷ script table230 (audit 4 96 2 [] ∷ audit 3 0 2 [] ∷ []) ∷ script table231 (audit 4 96 3 [] ∷ audit 3 0 3 [] ∷ []) ∷ script table232 (audit 0 96 4 []
    ∷ audit 3 0 4 [] ∷ audit 5 96 4 [] ∷ audit 8 97 4 [] ∷ audit 96 96 4 [] ∷ audit 4 0 14 [] ∷ audit 4 8 14 [] ∷ audit 4 16 14 [] ∷ audit 4 95 14 []
    ∷ audit 4 97 14 [] ∷ audit 4 192 14 [] ∷ audit 4 96 0 (1 ∷ []) ∷ []) ∷ script table233 (audit 0 96 4 [] ∷ audit 3 0 4 [] ∷ audit 5 96 4 []
    ∷ audit 8 97 4 [] ∷ audit 96 96 4 [] ∷ audit 4 0 14 [] ∷ audit 4 8 14 [] ∷ audit 4 16 14 [] ∷ audit 4 95 14 [] ∷ audit 4 97 14 [] ∷ audit 4 192 14 []
    ∷ audit 4 96 0 (0 ∷ []) ∷ []) ∷ []

pub audit_rows_agree : Agree audit_rows
unfolding audit_on audited replayed sweeps sweep advance check layout decoded well_laid word put_word put_words
audit_rows_agree = refl

-- The audit on the tables that the runs left, which get 1.
abbrev audit_made : List Script
audit_made = script table107 (audit 4 36 0 (1 ∷ []) ∷ []) ∷ script table109 (audit 4 84 0 (1 ∷ []) ∷ []) ∷ script table112 (audit 4 64 0 (1 ∷ []) ∷ [])
    ∷ script table119 (audit 4 128 0 (1 ∷ []) ∷ []) ∷ script table127 (audit 4 160 0 (1 ∷ []) ∷ []) ∷ script table140 (audit 4 224 0 (1 ∷ []) ∷ [])
    ∷ script table147 (audit 4 140 0 (1 ∷ []) ∷ []) ∷ script table155 (audit 4 188 0 (1 ∷ []) ∷ []) ∷ script table168 (audit 4 236 0 (1 ∷ []) ∷ [])
    ∷ script table184 (audit 4 332 0 (1 ∷ []) ∷ []) ∷ []

pub audit_made_agree : Agree audit_made
unfolding audit_on audited replayed sweeps sweep advance check layout decoded well_laid word put_word put_words
audit_made_agree = refl

abbrev table234 : List ℕ
table234 = bytes (1 ∷ 4 ∷ 1 ∷ 2 ∷ 0 ∷ 1 ∷ 2 ∷ 0 ∷ 0 ∷ 0 ∷ 0 ∷ 0 ∷ 0 ∷ 0 ∷ 0 ∷ 0 ∷ 0 ∷ 0 ∷ 0 ∷ 0 ∷ 0 ∷ [])

abbrev table235 : List ℕ
table235 = bytes (2 ∷ 1 ∷ 0 ∷ 0 ∷ 0 ∷ 0 ∷ 0 ∷ 0 ∷ 0 ∷ 1 ∷ 0 ∷ 0 ∷ 4 ∷ 0 ∷ 1 ∷ 0 ∷ [])

abbrev table236 : List ℕ
table236 = bytes (2 ∷ 3 ∷ 3 ∷ 0 ∷ 3 ∷ 3 ∷ 1 ∷ 1 ∷ 0 ∷ 3 ∷ 1 ∷ 2 ∷ 0 ∷ 3 ∷ 1 ∷ 3 ∷ 0 ∷ 3 ∷ 0 ∷ 1 ∷ 4 ∷ 0 ∷ 2 ∷ 0 ∷ 4 ∷ 0 ∷ 2 ∷ 0 ∷ 3 ∷ 0 ∷ 1 ∷ 0 ∷ [])

abbrev table237 : List ℕ
table237 = bytes (2 ∷ 4 ∷ 4 ∷ 0 ∷ 4 ∷ 3 ∷ 1 ∷ 1 ∷ 0 ∷ 3 ∷ 1 ∷ 2 ∷ 0 ∷ 3 ∷ 1 ∷ 3 ∷ 0 ∷ 3 ∷ 1 ∷ 4 ∷ 0 ∷ 4 ∷ 0 ∷ 0 ∷ 4 ∷ 0 ∷ 1 ∷ 0 ∷ 4 ∷ 0 ∷ 3 ∷ 0 ∷ 4 ∷ 0 ∷ 1
    ∷ 0 ∷ 4 ∷ 0 ∷ 4 ∷ 0 ∷ [])

abbrev table238 : List ℕ
table238 = bytes (2 ∷ 6 ∷ 6 ∷ 2 ∷ 3 ∷ 1 ∷ 2 ∷ 0 ∷ 0 ∷ 3 ∷ 1 ∷ 1 ∷ 2 ∷ 3 ∷ 1 ∷ 2 ∷ 2 ∷ 1 ∷ 2 ∷ 0 ∷ 0 ∷ 3 ∷ 1 ∷ 3 ∷ 2 ∷ 4 ∷ 1 ∷ 1 ∷ 2 ∷ 6 ∷ 2 ∷ 1 ∷ 1 ∷ 1 ∷ 0
    ∷ 0 ∷ 1 ∷ 2 ∷ 0 ∷ 0 ∷ 4 ∷ 0 ∷ 1 ∷ 1 ∷ 4 ∷ 0 ∷ 2 ∷ 1 ∷ 4 ∷ 0 ∷ 3 ∷ 2 ∷ 3 ∷ 0 ∷ 1 ∷ 2 ∷ [])

abbrev table239 : List ℕ
table239 = bytes (3 ∷ 2 ∷ 2 ∷ 0 ∷ 2 ∷ 3 ∷ 2 ∷ 1 ∷ 0 ∷ 3 ∷ 2 ∷ 2 ∷ 0 ∷ 2 ∷ 0 ∷ 2 ∷ 3 ∷ 2 ∷ 1 ∷ 0 ∷ 3 ∷ 0 ∷ 2 ∷ 0 ∷ 2 ∷ 2 ∷ 1 ∷ 1 ∷ 2 ∷ 0 ∷ 0 ∷ 3 ∷ 0 ∷ 1 ∷ 2
    ∷ [])

abbrev table240 : List ℕ
table240 = bytes (3 ∷ 3 ∷ 1 ∷ 0 ∷ 1 ∷ 3 ∷ 1 ∷ 1 ∷ 0 ∷ 0 ∷ 0 ∷ 0 ∷ 0 ∷ 0 ∷ 0 ∷ 0 ∷ 0 ∷ 3 ∷ 1 ∷ 0 ∷ 4 ∷ 2 ∷ 1 ∷ 0 ∷ 4 ∷ 2 ∷ 2 ∷ 0 ∷ 2 ∷ 1 ∷ 0 ∷ 0 ∷ 3 ∷ 1 ∷ 2
    ∷ 3 ∷ 1 ∷ 1 ∷ 0 ∷ 3 ∷ 1 ∷ 2 ∷ 0 ∷ 1 ∷ 1 ∷ 0 ∷ 0 ∷ [])

abbrev table241 : List ℕ
table241 = bytes (3 ∷ 4 ∷ 4 ∷ 1 ∷ 3 ∷ 1 ∷ 1 ∷ 0 ∷ 0 ∷ 3 ∷ 2 ∷ 1 ∷ 1 ∷ 3 ∷ 1 ∷ 2 ∷ 1 ∷ 3 ∷ 2 ∷ 3 ∷ 1 ∷ 4 ∷ 2 ∷ 1 ∷ 3 ∷ 2 ∷ 1 ∷ 0 ∷ 1 ∷ 1 ∷ 0 ∷ 0 ∷ 1 ∷ 2 ∷ 0
    ∷ 0 ∷ 4 ∷ 2 ∷ 1 ∷ 1 ∷ 4 ∷ 1 ∷ 1 ∷ 4 ∷ 1 ∷ 1 ∷ 0 ∷ 2 ∷ 1 ∷ 0 ∷ 0 ∷ 3 ∷ 1 ∷ 1 ∷ 1 ∷ 4 ∷ 0 ∷ 3 ∷ 1 ∷ [])

abbrev table242 : List ℕ
table242 = bytes (3 ∷ 6 ∷ 4 ∷ 2 ∷ 0 ∷ 4 ∷ 2 ∷ 1 ∷ 0 ∷ 4 ∷ 2 ∷ 3 ∷ 0 ∷ 1 ∷ 1 ∷ 0 ∷ 0 ∷ 1 ∷ 2 ∷ 0 ∷ 0 ∷ 0 ∷ 0 ∷ 0 ∷ 0 ∷ 0 ∷ 0 ∷ 0 ∷ 0 ∷ 6 ∷ 1 ∷ 5 ∷ 3 ∷ 2 ∷ 1
    ∷ 0 ∷ 3 ∷ 2 ∷ 2 ∷ 0 ∷ 3 ∷ 2 ∷ 3 ∷ 0 ∷ 1 ∷ 1 ∷ 0 ∷ 0 ∷ 3 ∷ 2 ∷ 4 ∷ 1 ∷ 3 ∷ 2 ∷ 5 ∷ 1 ∷ 6 ∷ 0 ∷ 5 ∷ 3 ∷ 1 ∷ 1 ∷ 0 ∷ 3 ∷ 1 ∷ 2 ∷ 0 ∷ 3 ∷ 0 ∷ 3 ∷ 0 ∷ 4 ∷ 1
    ∷ 2 ∷ 0 ∷ 3 ∷ 1 ∷ 4 ∷ 0 ∷ 3 ∷ 1 ∷ 5 ∷ 0 ∷ [])

-- The audit on these with a place changed, so that they are well laid and get 0.
abbrev audit_changed : List Script
audit_changed = script table185 (audit 4 36 0 (0 ∷ []) ∷ []) ∷ script table234 (audit 4 84 0 (0 ∷ []) ∷ []) ∷ script table235 (audit 4 64 0 (0 ∷ []) ∷ [])
    ∷ script table236 (audit 4 128 0 (0 ∷ []) ∷ []) ∷ script table237 (audit 4 160 0 (0 ∷ []) ∷ []) ∷ script table238 (audit 4 224 0 (0 ∷ []) ∷ [])
    ∷ script table239 (audit 4 140 0 (0 ∷ []) ∷ []) ∷ script table240 (audit 4 188 0 (0 ∷ []) ∷ []) ∷ script table241 (audit 4 236 0 (0 ∷ []) ∷ [])
    ∷ script table242 (audit 4 332 0 (0 ∷ []) ∷ []) ∷ []

pub audit_changed_agree : Agree audit_changed
unfolding audit_on audited replayed sweeps sweep advance check layout decoded well_laid word put_word put_words
audit_changed_agree = refl

-- The audit on well laid tables that no run makes.
abbrev audit_unmade : List Script
audit_unmade = script table191 (audit 4 96 0 (0 ∷ []) ∷ []) ∷ script table193 (audit 4 128 0 (0 ∷ []) ∷ []) ∷ script table195 (audit 4 160 0 (0 ∷ []) ∷ [])
    ∷ script table197 (audit 4 192 0 (0 ∷ []) ∷ []) ∷ script table200 (audit 4 224 0 (0 ∷ []) ∷ []) ∷ script table209 (audit 4 188 0 (0 ∷ []) ∷ [])
    ∷ script table211 (audit 4 236 0 (0 ∷ []) ∷ []) ∷ script table214 (audit 4 236 0 (0 ∷ []) ∷ []) ∷ script table218 (audit 4 284 0 (0 ∷ []) ∷ [])
    ∷ script table219 (audit 4 332 0 (0 ∷ []) ∷ []) ∷ []

pub audit_unmade_agree : Agree audit_unmade
unfolding audit_on audited replayed sweeps sweep advance check layout decoded well_laid word put_word put_words
audit_unmade_agree = refl

-- The grounds of the worked controller's failure lines, of a fresh table's and of one with a checkpoint.
abbrev grounds_worked : List Script
grounds_worked = script table7 (grounded 0 24 0 (0 ∷ 0 ∷ 0 ∷ 0 ∷ 0 ∷ 0 ∷ []) ∷ grounded 1 24 0 (1 ∷ 0 ∷ 2 ∷ 3 ∷ 2 ∷ 2 ∷ [])
    ∷ grounded 2 24 0 (0 ∷ 0 ∷ 1 ∷ 0 ∷ 2 ∷ 2 ∷ []) ∷ grounded 3 24 0 (1 ∷ 0 ∷ 1 ∷ 0 ∷ 2 ∷ 2 ∷ []) ∷ grounded 4 24 0 (0 ∷ 0 ∷ 0 ∷ 0 ∷ 1 ∷ 0 ∷ [])
    ∷ grounded 5 24 0 (1 ∷ 0 ∷ 2 ∷ 3 ∷ 1 ∷ 0 ∷ []) ∷ grounded 6 24 0 (0 ∷ 0 ∷ 1 ∷ 0 ∷ 1 ∷ 0 ∷ []) ∷ grounded 7 24 0 (1 ∷ 0 ∷ 1 ∷ 0 ∷ 1 ∷ 0 ∷ [])
    ∷ grounded 8 24 11 [] ∷ grounded 1 23 4 [] ∷ grounded 1 25 4 [] ∷ []) ∷ script table14 (grounded 0 16 0 (0 ∷ 0 ∷ 0 ∷ 0 ∷ [])
    ∷ grounded 1 16 0 (1 ∷ 0 ∷ 0 ∷ 0 ∷ []) ∷ grounded 2 16 0 (0 ∷ 0 ∷ 1 ∷ 0 ∷ []) ∷ grounded 3 16 0 (1 ∷ 0 ∷ 1 ∷ 0 ∷ []) ∷ grounded 4 16 11 []
    ∷ grounded 1 15 4 [] ∷ grounded 1 17 4 [] ∷ []) ∷ script table227 (grounded 0 16 0 (0 ∷ 0 ∷ 0 ∷ 0 ∷ []) ∷ grounded 1 16 0 (1 ∷ 0 ∷ 0 ∷ 0 ∷ [])
    ∷ grounded 2 16 0 (0 ∷ 0 ∷ 1 ∷ 0 ∷ []) ∷ grounded 3 16 0 (1 ∷ 0 ∷ 1 ∷ 0 ∷ []) ∷ grounded 4 16 11 [] ∷ grounded 1 15 4 [] ∷ grounded 1 17 4 [] ∷ []) ∷ []

pub grounds_worked_agree : Agree grounds_worked
unfolding grounds_on grounds layout decoded well_laid word put_word put_words failure_line rounds round
grounds_worked_agree = refl

abbrev table243 : List ℕ
table243 = bytes (17 ∷ 2 ∷ 2 ∷ 1 ∷ 1 ∷ 1 ∷ 1 ∷ 0 ∷ 0 ∷ 3 ∷ 1 ∷ 1 ∷ 1 ∷ 2 ∷ 0 ∷ 0 ∷ 4 ∷ 0 ∷ 1 ∷ 0 ∷ 0 ∷ 0 ∷ 0 ∷ [])
    ++ (0 ∷ 0 ∷ 0 ∷ [])

abbrev table244 : List ℕ
table244 = bytes (2 ∷ 2 ∷ 2 ∷ 1 ∷ 1 ∷ 1 ∷ 1 ∷ 0 ∷ 0 ∷ 3 ∷ 1 ∷ 1 ∷ 1 ∷ 2 ∷ 0 ∷ 0 ∷ 4 ∷ 0 ∷ 1 ∷ 0 ∷ 0 ∷ 0 ∷ 0 ∷ [])
    ++ (0 ∷ 0 ∷ 0 ∷ [])

-- The rows of grounds, in order.
abbrev grounds_rows : List Script
grounds_rows = script table228 (grounded 0 16 2 [] ∷ grounded 4294967295 16 2 [] ∷ grounded 0 15 2 [] ∷ grounded 4294967295 15 2 [] ∷ [])
    ∷ script table243 (grounded 0 16 1 [] ∷ grounded 4294967295 16 1 [] ∷ grounded 0 15 1 [] ∷ grounded 4294967295 15 1 [] ∷ [])
    ∷ script table244 (grounded 0 16 2 [] ∷ grounded 4294967295 16 2 [] ∷ grounded 0 15 2 [] ∷ grounded 4294967295 15 2 [] ∷ [])
    ∷ script table34 (grounded 0 16 3 [] ∷ grounded 4294967295 16 3 [] ∷ grounded 0 15 3 [] ∷ grounded 4294967295 15 3 [] ∷ [])
    ∷ script table72 (grounded 0 0 4 [] ∷ grounded 4 0 4 [] ∷ grounded 4294967295 0 4 [] ∷ grounded 0 4 4 [] ∷ grounded 4 4 4 [] ∷ grounded 4294967295 4 4 []
    ∷ grounded 0 8 4 [] ∷ grounded 4 8 4 [] ∷ grounded 4294967295 8 4 [] ∷ grounded 0 15 4 [] ∷ grounded 4 15 4 [] ∷ grounded 4294967295 15 4 []
    ∷ grounded 0 17 4 [] ∷ grounded 4 17 4 [] ∷ grounded 4294967295 17 4 [] ∷ grounded 0 20 4 [] ∷ grounded 4 20 4 [] ∷ grounded 4294967295 20 4 []
    ∷ grounded 0 24 4 [] ∷ grounded 4 24 4 [] ∷ grounded 4294967295 24 4 [] ∷ grounded 0 96 4 [] ∷ grounded 4 96 4 [] ∷ grounded 4294967295 96 4 [] ∷ [])
    ∷ script table72 (grounded 4 16 11 [] ∷ grounded 5 16 11 [] ∷ grounded 7 16 11 [] ∷ grounded 65536 16 11 [] ∷ grounded 2147483648 16 11 []
    ∷ grounded 4294967295 16 11 [] ∷ []) ∷ script table72 (grounded 0 16 0 (0 ∷ 0 ∷ 0 ∷ 0 ∷ []) ∷ grounded 1 16 0 (1 ∷ 0 ∷ 2 ∷ 1 ∷ [])
    ∷ grounded 2 16 0 (0 ∷ 0 ∷ 1 ∷ 0 ∷ []) ∷ grounded 3 16 0 (1 ∷ 0 ∷ 1 ∷ 0 ∷ []) ∷ []) ∷ []

pub grounds_rows_agree : Agree grounds_rows
unfolding grounds_on grounds layout decoded well_laid word put_word put_words failure_line rounds round
grounds_rows_agree = refl

abbrev table245 : List ℕ
table245 = bytes (2 ∷ 4 ∷ 1 ∷ 0 ∷ 1 ∷ 3 ∷ 1 ∷ 1 ∷ 0 ∷ 0 ∷ 0 ∷ 0 ∷ 0 ∷ 0 ∷ 0 ∷ 0 ∷ 0 ∷ 0 ∷ 0 ∷ 0 ∷ 0 ∷ 2 ∷ 1 ∷ 0 ∷ 4 ∷ 0 ∷ 1 ∷ 0 ∷ 1 ∷ 1 ∷ 0 ∷ 0 ∷ 0 ∷ 0 ∷ 0
    ∷ 0 ∷ 0 ∷ 0 ∷ 0 ∷ 0 ∷ [])

abbrev table246 : List ℕ
table246 = bytes (2 ∷ 4 ∷ 4 ∷ 1 ∷ 3 ∷ 3 ∷ 1 ∷ 1 ∷ 0 ∷ 1 ∷ 1 ∷ 0 ∷ 0 ∷ 3 ∷ 1 ∷ 2 ∷ 1 ∷ 3 ∷ 1 ∷ 3 ∷ 1 ∷ 4 ∷ 3 ∷ 0 ∷ 4 ∷ 0 ∷ 1 ∷ 0 ∷ 4 ∷ 0 ∷ 3 ∷ 0 ∷ 4 ∷ 0 ∷ 2
    ∷ 0 ∷ 2 ∷ 3 ∷ 0 ∷ 0 ∷ [])

abbrev table247 : List ℕ
table247 = bytes (2 ∷ 4 ∷ 1 ∷ 0 ∷ 1 ∷ 3 ∷ 1 ∷ 1 ∷ 0 ∷ 0 ∷ 0 ∷ 0 ∷ 0 ∷ 0 ∷ 0 ∷ 0 ∷ 0 ∷ 0 ∷ 0 ∷ 0 ∷ 0 ∷ 2 ∷ 1 ∷ 0 ∷ 1 ∷ 1 ∷ 0 ∷ 0 ∷ 4 ∷ 0 ∷ 1 ∷ 0 ∷ 0 ∷ 0 ∷ 0
    ∷ 0 ∷ 0 ∷ 0 ∷ 0 ∷ 0 ∷ [])

abbrev table248 : List ℕ
table248 = bytes (2 ∷ 4 ∷ 3 ∷ 1 ∷ 1 ∷ 4 ∷ 1 ∷ 1 ∷ 0 ∷ 1 ∷ 1 ∷ 0 ∷ 0 ∷ 3 ∷ 1 ∷ 1 ∷ 1 ∷ 0 ∷ 0 ∷ 0 ∷ 0 ∷ 3 ∷ 1 ∷ 1 ∷ 4 ∷ 0 ∷ 1 ∷ 0 ∷ 1 ∷ 1 ∷ 0 ∷ 0 ∷ 3 ∷ 0 ∷ 1
    ∷ 1 ∷ 0 ∷ 0 ∷ 0 ∷ 0 ∷ [])

abbrev table249 : List ℕ
table249 = bytes (2 ∷ 4 ∷ 3 ∷ 1 ∷ 0 ∷ 1 ∷ 1 ∷ 0 ∷ 0 ∷ 4 ∷ 1 ∷ 4 ∷ 0 ∷ 4 ∷ 1 ∷ 1 ∷ 0 ∷ 0 ∷ 0 ∷ 0 ∷ 0 ∷ 0 ∷ 0 ∷ 0 ∷ 0 ∷ 0 ∷ 0 ∷ 0 ∷ 0 ∷ 0 ∷ 0 ∷ 0 ∷ 0 ∷ 0 ∷ 0
    ∷ 0 ∷ 0 ∷ 0 ∷ 0 ∷ 0 ∷ [])

abbrev table250 : List ℕ
table250 = bytes (2 ∷ 4 ∷ 2 ∷ 2 ∷ 1 ∷ 1 ∷ 2 ∷ 0 ∷ 0 ∷ 3 ∷ 1 ∷ 1 ∷ 2 ∷ 0 ∷ 0 ∷ 0 ∷ 0 ∷ 0 ∷ 0 ∷ 0 ∷ 0 ∷ 4 ∷ 0 ∷ 0 ∷ 4 ∷ 0 ∷ 1 ∷ 0 ∷ 1 ∷ 1 ∷ 0 ∷ 0 ∷ 4 ∷ 0 ∷ 1
    ∷ 0 ∷ 1 ∷ 0 ∷ 0 ∷ 0 ∷ [])

abbrev table251 : List ℕ
table251 = bytes (3 ∷ 4 ∷ 1 ∷ 0 ∷ 1 ∷ 3 ∷ 2 ∷ 1 ∷ 0 ∷ 0 ∷ 0 ∷ 0 ∷ 0 ∷ 0 ∷ 0 ∷ 0 ∷ 0 ∷ 0 ∷ 0 ∷ 0 ∷ 0 ∷ 2 ∷ 0 ∷ 0 ∷ 4 ∷ 0 ∷ 1 ∷ 0 ∷ 4 ∷ 0 ∷ 2 ∷ 0 ∷ 0 ∷ 0 ∷ 0
    ∷ 0 ∷ 0 ∷ 0 ∷ 0 ∷ 0 ∷ 1 ∷ 0 ∷ 0 ∷ 4 ∷ 0 ∷ 1 ∷ 0 ∷ 0 ∷ 0 ∷ 0 ∷ 0 ∷ 0 ∷ 0 ∷ 0 ∷ 0 ∷ 0 ∷ 0 ∷ 0 ∷ 0 ∷ [])

abbrev table252 : List ℕ
table252 = bytes (3 ∷ 4 ∷ 2 ∷ 1 ∷ 1 ∷ 1 ∷ 1 ∷ 0 ∷ 0 ∷ 3 ∷ 1 ∷ 1 ∷ 1 ∷ 0 ∷ 0 ∷ 0 ∷ 0 ∷ 0 ∷ 0 ∷ 0 ∷ 0 ∷ 4 ∷ 2 ∷ 1 ∷ 1 ∷ 1 ∷ 0 ∷ 0 ∷ 4 ∷ 0 ∷ 1 ∷ 1 ∷ 1 ∷ 2 ∷ 0
    ∷ 0 ∷ 3 ∷ 2 ∷ 1 ∷ 2 ∷ 4 ∷ 3 ∷ 0 ∷ 1 ∷ 2 ∷ 0 ∷ 0 ∷ 4 ∷ 1 ∷ 1 ∷ 2 ∷ 1 ∷ 3 ∷ 0 ∷ 0 ∷ 4 ∷ 1 ∷ 1 ∷ 2 ∷ [])

-- Grounds where receipts lack their send, repeat, or stand behind what goes.
abbrev grounds_stray : List Script
grounds_stray = script table121 (grounded 0 16 0 (0 ∷ 0 ∷ 0 ∷ 0 ∷ []) ∷ grounded 1 16 0 (1 ∷ 0 ∷ 2 ∷ 1 ∷ []) ∷ grounded 2 16 0 (0 ∷ 0 ∷ 1 ∷ 0 ∷ [])
    ∷ grounded 3 16 0 (1 ∷ 0 ∷ 1 ∷ 0 ∷ []) ∷ grounded 4 16 11 [] ∷ grounded 1 15 4 [] ∷ grounded 1 17 4 [] ∷ [])
    ∷ script table245 (grounded 0 16 0 (0 ∷ 0 ∷ 0 ∷ 0 ∷ []) ∷ grounded 1 16 0 (1 ∷ 0 ∷ 2 ∷ 1 ∷ []) ∷ grounded 2 16 0 (0 ∷ 0 ∷ 1 ∷ 0 ∷ [])
    ∷ grounded 3 16 0 (1 ∷ 0 ∷ 2 ∷ 1 ∷ []) ∷ grounded 4 16 11 [] ∷ grounded 1 15 4 [] ∷ grounded 1 17 4 [] ∷ [])
    ∷ script table246 (grounded 0 16 0 (0 ∷ 0 ∷ 0 ∷ 0 ∷ []) ∷ grounded 1 16 0 (1 ∷ 0 ∷ 2 ∷ 2 ∷ []) ∷ grounded 2 16 0 (0 ∷ 0 ∷ 1 ∷ 0 ∷ [])
    ∷ grounded 3 16 0 (1 ∷ 0 ∷ 2 ∷ 2 ∷ []) ∷ grounded 4 16 11 [] ∷ grounded 1 15 4 [] ∷ grounded 1 17 4 [] ∷ [])
    ∷ script table247 (grounded 0 16 0 (0 ∷ 0 ∷ 0 ∷ 0 ∷ []) ∷ grounded 1 16 0 (1 ∷ 0 ∷ 2 ∷ 2 ∷ []) ∷ grounded 2 16 0 (0 ∷ 0 ∷ 1 ∷ 0 ∷ [])
    ∷ grounded 3 16 0 (1 ∷ 0 ∷ 1 ∷ 0 ∷ []) ∷ grounded 4 16 11 [] ∷ grounded 1 15 4 [] ∷ grounded 1 17 4 [] ∷ [])
    ∷ script table248 (grounded 0 16 0 (0 ∷ 0 ∷ 0 ∷ 0 ∷ []) ∷ grounded 1 16 0 (2 ∷ 1 ∷ 2 ∷ 1 ∷ []) ∷ grounded 2 16 0 (2 ∷ 1 ∷ 2 ∷ 1 ∷ [])
    ∷ grounded 3 16 0 (2 ∷ 1 ∷ 2 ∷ 1 ∷ []) ∷ grounded 4 16 11 [] ∷ grounded 1 15 4 [] ∷ grounded 1 17 4 [] ∷ [])
    ∷ script table249 (grounded 0 16 0 (2 ∷ 2 ∷ 0 ∷ 0 ∷ []) ∷ grounded 1 16 0 (1 ∷ 0 ∷ 0 ∷ 0 ∷ []) ∷ grounded 2 16 0 (2 ∷ 2 ∷ 1 ∷ 0 ∷ [])
    ∷ grounded 3 16 0 (1 ∷ 0 ∷ 1 ∷ 0 ∷ []) ∷ grounded 4 16 11 [] ∷ grounded 1 15 4 [] ∷ grounded 1 17 4 [] ∷ [])
    ∷ script table250 (grounded 0 16 0 (0 ∷ 0 ∷ 0 ∷ 0 ∷ []) ∷ grounded 1 16 0 (1 ∷ 0 ∷ 2 ∷ 1 ∷ []) ∷ grounded 2 16 0 (0 ∷ 0 ∷ 1 ∷ 0 ∷ [])
    ∷ grounded 3 16 0 (1 ∷ 0 ∷ 2 ∷ 1 ∷ []) ∷ grounded 4 16 11 [] ∷ grounded 1 15 4 [] ∷ grounded 1 17 4 [] ∷ [])
    ∷ script table251 (grounded 0 24 0 (0 ∷ 0 ∷ 2 ∷ 1 ∷ 0 ∷ 0 ∷ []) ∷ grounded 1 24 0 (1 ∷ 0 ∷ 2 ∷ 1 ∷ 2 ∷ 1 ∷ [])
    ∷ grounded 2 24 0 (0 ∷ 0 ∷ 1 ∷ 0 ∷ 0 ∷ 0 ∷ []) ∷ grounded 3 24 0 (1 ∷ 0 ∷ 1 ∷ 0 ∷ 2 ∷ 1 ∷ []) ∷ grounded 4 24 0 (0 ∷ 0 ∷ 2 ∷ 1 ∷ 1 ∷ 0 ∷ [])
    ∷ grounded 5 24 0 (1 ∷ 0 ∷ 2 ∷ 1 ∷ 1 ∷ 0 ∷ []) ∷ grounded 6 24 0 (0 ∷ 0 ∷ 1 ∷ 0 ∷ 1 ∷ 0 ∷ []) ∷ grounded 7 24 0 (1 ∷ 0 ∷ 1 ∷ 0 ∷ 1 ∷ 0 ∷ [])
    ∷ grounded 8 24 11 [] ∷ grounded 1 23 4 [] ∷ grounded 1 25 4 [] ∷ []) ∷ script table252 (grounded 0 24 0 (0 ∷ 0 ∷ 0 ∷ 0 ∷ 0 ∷ 0 ∷ [])
    ∷ grounded 1 24 0 (1 ∷ 0 ∷ 2 ∷ 2 ∷ 2 ∷ 2 ∷ []) ∷ grounded 2 24 0 (0 ∷ 0 ∷ 1 ∷ 0 ∷ 2 ∷ 2 ∷ []) ∷ grounded 3 24 0 (1 ∷ 0 ∷ 2 ∷ 2 ∷ 2 ∷ 2 ∷ [])
    ∷ grounded 4 24 0 (0 ∷ 0 ∷ 0 ∷ 0 ∷ 1 ∷ 0 ∷ []) ∷ grounded 5 24 0 (1 ∷ 0 ∷ 2 ∷ 2 ∷ 2 ∷ 2 ∷ []) ∷ grounded 6 24 0 (0 ∷ 0 ∷ 1 ∷ 0 ∷ 2 ∷ 2 ∷ [])
    ∷ grounded 7 24 0 (1 ∷ 0 ∷ 2 ∷ 2 ∷ 2 ∷ 2 ∷ []) ∷ grounded 8 24 11 [] ∷ grounded 1 23 4 [] ∷ grounded 1 25 4 [] ∷ [])
    ∷ script table226 (grounded 0 24 0 (2 ∷ 4 ∷ 2 ∷ 1 ∷ 2 ∷ 1 ∷ []) ∷ grounded 1 24 0 (1 ∷ 0 ∷ 2 ∷ 1 ∷ 2 ∷ 1 ∷ [])
    ∷ grounded 2 24 0 (2 ∷ 4 ∷ 1 ∷ 0 ∷ 2 ∷ 1 ∷ []) ∷ grounded 3 24 0 (1 ∷ 0 ∷ 1 ∷ 0 ∷ 2 ∷ 1 ∷ []) ∷ grounded 4 24 0 (2 ∷ 4 ∷ 2 ∷ 1 ∷ 1 ∷ 0 ∷ [])
    ∷ grounded 5 24 0 (1 ∷ 0 ∷ 2 ∷ 1 ∷ 1 ∷ 0 ∷ []) ∷ grounded 6 24 0 (2 ∷ 4 ∷ 1 ∷ 0 ∷ 1 ∷ 0 ∷ []) ∷ grounded 7 24 0 (1 ∷ 0 ∷ 1 ∷ 0 ∷ 1 ∷ 0 ∷ [])
    ∷ grounded 8 24 11 [] ∷ grounded 1 23 4 [] ∷ grounded 1 25 4 [] ∷ []) ∷ script table73 (grounded 0 24 0 (2 ∷ 3 ∷ 0 ∷ 0 ∷ 0 ∷ 0 ∷ [])
    ∷ grounded 1 24 0 (1 ∷ 0 ∷ 0 ∷ 0 ∷ 0 ∷ 0 ∷ []) ∷ grounded 2 24 0 (2 ∷ 3 ∷ 1 ∷ 0 ∷ 0 ∷ 0 ∷ []) ∷ grounded 3 24 0 (1 ∷ 0 ∷ 1 ∷ 0 ∷ 0 ∷ 0 ∷ [])
    ∷ grounded 4 24 0 (2 ∷ 3 ∷ 0 ∷ 0 ∷ 1 ∷ 0 ∷ []) ∷ grounded 5 24 0 (1 ∷ 0 ∷ 0 ∷ 0 ∷ 1 ∷ 0 ∷ []) ∷ grounded 6 24 0 (2 ∷ 3 ∷ 1 ∷ 0 ∷ 1 ∷ 0 ∷ [])
    ∷ grounded 7 24 0 (1 ∷ 0 ∷ 1 ∷ 0 ∷ 1 ∷ 0 ∷ []) ∷ grounded 8 24 11 [] ∷ grounded 1 23 4 [] ∷ grounded 1 25 4 [] ∷ [])
    ∷ script table105 (grounded 0 16 0 (0 ∷ 0 ∷ 0 ∷ 0 ∷ []) ∷ grounded 1 16 0 (2 ∷ 2 ∷ 2 ∷ 1 ∷ []) ∷ grounded 2 16 0 (2 ∷ 2 ∷ 2 ∷ 1 ∷ [])
    ∷ grounded 3 16 0 (2 ∷ 2 ∷ 2 ∷ 1 ∷ []) ∷ grounded 4 16 11 [] ∷ grounded 1 15 4 [] ∷ grounded 1 17 4 [] ∷ []) ∷ []

pub grounds_stray_agree : Agree grounds_stray
unfolding grounds_on grounds layout decoded well_laid word put_word put_words failure_line rounds round
grounds_stray_agree = refl

-- Grounds on the tables that the runs left.
abbrev grounds_made : List Script
grounds_made = script table107 (grounded 0 8 0 (0 ∷ 0 ∷ []) ∷ grounded 1 8 0 (1 ∷ 0 ∷ []) ∷ grounded 2 8 11 [] ∷ grounded 1 7 4 [] ∷ grounded 1 9 4 [] ∷ [])
    ∷ script table109 (grounded 0 8 0 (0 ∷ 0 ∷ []) ∷ grounded 1 8 0 (1 ∷ 0 ∷ []) ∷ grounded 2 8 11 [] ∷ grounded 1 7 4 [] ∷ grounded 1 9 4 [] ∷ [])
    ∷ script table112 (grounded 0 16 0 (0 ∷ 0 ∷ 0 ∷ 0 ∷ []) ∷ grounded 1 16 0 (1 ∷ 0 ∷ 2 ∷ 1 ∷ []) ∷ grounded 2 16 0 (0 ∷ 0 ∷ 1 ∷ 0 ∷ [])
    ∷ grounded 3 16 0 (1 ∷ 0 ∷ 1 ∷ 0 ∷ []) ∷ grounded 4 16 11 [] ∷ grounded 1 15 4 [] ∷ grounded 1 17 4 [] ∷ [])
    ∷ script table119 (grounded 0 16 0 (0 ∷ 0 ∷ 0 ∷ 0 ∷ []) ∷ grounded 1 16 0 (1 ∷ 0 ∷ 2 ∷ 1 ∷ []) ∷ grounded 2 16 0 (0 ∷ 0 ∷ 1 ∷ 0 ∷ [])
    ∷ grounded 3 16 0 (1 ∷ 0 ∷ 1 ∷ 0 ∷ []) ∷ grounded 4 16 11 [] ∷ grounded 1 15 4 [] ∷ grounded 1 17 4 [] ∷ [])
    ∷ script table127 (grounded 0 16 0 (0 ∷ 0 ∷ 0 ∷ 0 ∷ []) ∷ grounded 1 16 0 (1 ∷ 0 ∷ 2 ∷ 1 ∷ []) ∷ grounded 2 16 0 (0 ∷ 0 ∷ 1 ∷ 0 ∷ [])
    ∷ grounded 3 16 0 (1 ∷ 0 ∷ 1 ∷ 0 ∷ []) ∷ grounded 4 16 11 [] ∷ grounded 1 15 4 [] ∷ grounded 1 17 4 [] ∷ [])
    ∷ script table140 (grounded 0 16 0 (0 ∷ 0 ∷ 0 ∷ 0 ∷ []) ∷ grounded 1 16 0 (1 ∷ 0 ∷ 2 ∷ 5 ∷ []) ∷ grounded 2 16 0 (2 ∷ 6 ∷ 1 ∷ 0 ∷ [])
    ∷ grounded 3 16 0 (1 ∷ 0 ∷ 1 ∷ 0 ∷ []) ∷ grounded 4 16 11 [] ∷ grounded 1 15 4 [] ∷ grounded 1 17 4 [] ∷ [])
    ∷ script table147 (grounded 0 24 0 (0 ∷ 0 ∷ 0 ∷ 0 ∷ 0 ∷ 0 ∷ []) ∷ grounded 1 24 0 (1 ∷ 0 ∷ 0 ∷ 0 ∷ 0 ∷ 0 ∷ [])
    ∷ grounded 2 24 0 (0 ∷ 0 ∷ 1 ∷ 0 ∷ 0 ∷ 0 ∷ []) ∷ grounded 3 24 0 (1 ∷ 0 ∷ 1 ∷ 0 ∷ 0 ∷ 0 ∷ []) ∷ grounded 4 24 0 (0 ∷ 0 ∷ 0 ∷ 0 ∷ 1 ∷ 0 ∷ [])
    ∷ grounded 5 24 0 (1 ∷ 0 ∷ 0 ∷ 0 ∷ 1 ∷ 0 ∷ []) ∷ grounded 6 24 0 (0 ∷ 0 ∷ 1 ∷ 0 ∷ 1 ∷ 0 ∷ []) ∷ grounded 7 24 0 (1 ∷ 0 ∷ 1 ∷ 0 ∷ 1 ∷ 0 ∷ [])
    ∷ grounded 8 24 11 [] ∷ grounded 1 23 4 [] ∷ grounded 1 25 4 [] ∷ []) ∷ script table155 (grounded 0 24 0 (0 ∷ 0 ∷ 0 ∷ 0 ∷ 0 ∷ 0 ∷ [])
    ∷ grounded 1 24 0 (1 ∷ 0 ∷ 0 ∷ 0 ∷ 0 ∷ 0 ∷ []) ∷ grounded 2 24 0 (0 ∷ 0 ∷ 1 ∷ 0 ∷ 0 ∷ 0 ∷ []) ∷ grounded 3 24 0 (1 ∷ 0 ∷ 1 ∷ 0 ∷ 0 ∷ 0 ∷ [])
    ∷ grounded 4 24 0 (0 ∷ 0 ∷ 0 ∷ 0 ∷ 1 ∷ 0 ∷ []) ∷ grounded 5 24 0 (1 ∷ 0 ∷ 0 ∷ 0 ∷ 1 ∷ 0 ∷ []) ∷ grounded 6 24 0 (0 ∷ 0 ∷ 1 ∷ 0 ∷ 1 ∷ 0 ∷ [])
    ∷ grounded 7 24 0 (1 ∷ 0 ∷ 1 ∷ 0 ∷ 1 ∷ 0 ∷ []) ∷ grounded 8 24 11 [] ∷ grounded 1 23 4 [] ∷ grounded 1 25 4 [] ∷ [])
    ∷ script table168 (grounded 0 24 0 (0 ∷ 0 ∷ 0 ∷ 0 ∷ 0 ∷ 0 ∷ []) ∷ grounded 1 24 0 (1 ∷ 0 ∷ 2 ∷ 4 ∷ 2 ∷ 4 ∷ [])
    ∷ grounded 2 24 0 (0 ∷ 0 ∷ 1 ∷ 0 ∷ 0 ∷ 0 ∷ []) ∷ grounded 3 24 0 (1 ∷ 0 ∷ 1 ∷ 0 ∷ 2 ∷ 4 ∷ []) ∷ grounded 4 24 0 (0 ∷ 0 ∷ 2 ∷ 4 ∷ 1 ∷ 0 ∷ [])
    ∷ grounded 5 24 0 (1 ∷ 0 ∷ 2 ∷ 4 ∷ 1 ∷ 0 ∷ []) ∷ grounded 6 24 0 (0 ∷ 0 ∷ 1 ∷ 0 ∷ 1 ∷ 0 ∷ []) ∷ grounded 7 24 0 (1 ∷ 0 ∷ 1 ∷ 0 ∷ 1 ∷ 0 ∷ [])
    ∷ grounded 8 24 11 [] ∷ grounded 1 23 4 [] ∷ grounded 1 25 4 [] ∷ []) ∷ script table184 (grounded 0 24 0 (0 ∷ 0 ∷ 0 ∷ 0 ∷ 0 ∷ 0 ∷ [])
    ∷ grounded 1 24 0 (1 ∷ 0 ∷ 0 ∷ 0 ∷ 0 ∷ 0 ∷ []) ∷ grounded 2 24 0 (0 ∷ 0 ∷ 1 ∷ 0 ∷ 0 ∷ 0 ∷ []) ∷ grounded 3 24 0 (1 ∷ 0 ∷ 1 ∷ 0 ∷ 0 ∷ 0 ∷ [])
    ∷ grounded 4 24 0 (2 ∷ 1 ∷ 0 ∷ 0 ∷ 1 ∷ 0 ∷ []) ∷ grounded 5 24 0 (2 ∷ 1 ∷ 0 ∷ 0 ∷ 1 ∷ 0 ∷ []) ∷ grounded 6 24 0 (2 ∷ 1 ∷ 1 ∷ 0 ∷ 1 ∷ 0 ∷ [])
    ∷ grounded 7 24 0 (2 ∷ 1 ∷ 1 ∷ 0 ∷ 1 ∷ 0 ∷ []) ∷ grounded 8 24 11 [] ∷ grounded 1 23 4 [] ∷ grounded 1 25 4 [] ∷ []) ∷ []

pub grounds_made_agree : Agree grounds_made
unfolding grounds_on grounds layout decoded well_laid word put_word put_words failure_line rounds round
grounds_made_agree = refl

-- Grounds on the well laid tables that no run makes.
abbrev grounds_unmade : List Script
grounds_unmade = script table185 (grounded 0 8 0 (0 ∷ 0 ∷ []) ∷ grounded 1 8 0 (1 ∷ 0 ∷ []) ∷ grounded 2 8 11 [] ∷ grounded 1 7 4 [] ∷ grounded 1 9 4 [] ∷ [])
    ∷ script table186 (grounded 0 8 0 (0 ∷ 0 ∷ []) ∷ grounded 1 8 0 (1 ∷ 0 ∷ []) ∷ grounded 2 8 11 [] ∷ grounded 1 7 4 [] ∷ grounded 1 9 4 [] ∷ [])
    ∷ script table189 (grounded 0 16 0 (0 ∷ 0 ∷ 0 ∷ 0 ∷ []) ∷ grounded 1 16 0 (1 ∷ 0 ∷ 0 ∷ 0 ∷ []) ∷ grounded 2 16 0 (0 ∷ 0 ∷ 1 ∷ 0 ∷ [])
    ∷ grounded 3 16 0 (1 ∷ 0 ∷ 1 ∷ 0 ∷ []) ∷ grounded 4 16 11 [] ∷ grounded 1 15 4 [] ∷ grounded 1 17 4 [] ∷ [])
    ∷ script table191 (grounded 0 16 0 (2 ∷ 2 ∷ 0 ∷ 0 ∷ []) ∷ grounded 1 16 0 (1 ∷ 0 ∷ 0 ∷ 0 ∷ []) ∷ grounded 2 16 0 (2 ∷ 2 ∷ 1 ∷ 0 ∷ [])
    ∷ grounded 3 16 0 (1 ∷ 0 ∷ 1 ∷ 0 ∷ []) ∷ grounded 4 16 11 [] ∷ grounded 1 15 4 [] ∷ grounded 1 17 4 [] ∷ [])
    ∷ script table193 (grounded 0 16 0 (2 ∷ 1 ∷ 2 ∷ 2 ∷ []) ∷ grounded 1 16 0 (2 ∷ 1 ∷ 2 ∷ 2 ∷ []) ∷ grounded 2 16 0 (2 ∷ 1 ∷ 1 ∷ 0 ∷ [])
    ∷ grounded 3 16 0 (2 ∷ 1 ∷ 1 ∷ 0 ∷ []) ∷ grounded 4 16 11 [] ∷ grounded 1 15 4 [] ∷ grounded 1 17 4 [] ∷ [])
    ∷ script table195 (grounded 0 16 0 (0 ∷ 0 ∷ 0 ∷ 0 ∷ []) ∷ grounded 1 16 0 (1 ∷ 0 ∷ 2 ∷ 2 ∷ []) ∷ grounded 2 16 0 (0 ∷ 0 ∷ 1 ∷ 0 ∷ [])
    ∷ grounded 3 16 0 (1 ∷ 0 ∷ 1 ∷ 0 ∷ []) ∷ grounded 4 16 11 [] ∷ grounded 1 15 4 [] ∷ grounded 1 17 4 [] ∷ [])
    ∷ script table197 (grounded 0 16 0 (2 ∷ 1 ∷ 0 ∷ 0 ∷ []) ∷ grounded 1 16 0 (2 ∷ 1 ∷ 0 ∷ 0 ∷ []) ∷ grounded 2 16 0 (2 ∷ 1 ∷ 1 ∷ 0 ∷ [])
    ∷ grounded 3 16 0 (2 ∷ 1 ∷ 1 ∷ 0 ∷ []) ∷ grounded 4 16 11 [] ∷ grounded 1 15 4 [] ∷ grounded 1 17 4 [] ∷ [])
    ∷ script table200 (grounded 0 16 0 (0 ∷ 0 ∷ 2 ∷ 3 ∷ []) ∷ grounded 1 16 0 (1 ∷ 0 ∷ 2 ∷ 1 ∷ []) ∷ grounded 2 16 0 (0 ∷ 0 ∷ 1 ∷ 0 ∷ [])
    ∷ grounded 3 16 0 (1 ∷ 0 ∷ 1 ∷ 0 ∷ []) ∷ grounded 4 16 11 [] ∷ grounded 1 15 4 [] ∷ grounded 1 17 4 [] ∷ [])
    ∷ script table203 (grounded 0 24 0 (0 ∷ 0 ∷ 0 ∷ 0 ∷ 0 ∷ 0 ∷ []) ∷ grounded 1 24 0 (1 ∷ 0 ∷ 0 ∷ 0 ∷ 0 ∷ 0 ∷ [])
    ∷ grounded 2 24 0 (0 ∷ 0 ∷ 1 ∷ 0 ∷ 0 ∷ 0 ∷ []) ∷ grounded 3 24 0 (1 ∷ 0 ∷ 1 ∷ 0 ∷ 0 ∷ 0 ∷ []) ∷ grounded 4 24 0 (0 ∷ 0 ∷ 0 ∷ 0 ∷ 1 ∷ 0 ∷ [])
    ∷ grounded 5 24 0 (1 ∷ 0 ∷ 0 ∷ 0 ∷ 1 ∷ 0 ∷ []) ∷ grounded 6 24 0 (0 ∷ 0 ∷ 1 ∷ 0 ∷ 1 ∷ 0 ∷ []) ∷ grounded 7 24 0 (1 ∷ 0 ∷ 1 ∷ 0 ∷ 1 ∷ 0 ∷ [])
    ∷ grounded 8 24 11 [] ∷ grounded 1 23 4 [] ∷ grounded 1 25 4 [] ∷ []) ∷ script table209 (grounded 0 24 0 (2 ∷ 1 ∷ 0 ∷ 0 ∷ 2 ∷ 2 ∷ [])
    ∷ grounded 1 24 0 (1 ∷ 0 ∷ 0 ∷ 0 ∷ 2 ∷ 2 ∷ []) ∷ grounded 2 24 0 (2 ∷ 1 ∷ 1 ∷ 0 ∷ 2 ∷ 2 ∷ []) ∷ grounded 3 24 0 (1 ∷ 0 ∷ 1 ∷ 0 ∷ 2 ∷ 2 ∷ [])
    ∷ grounded 4 24 0 (2 ∷ 1 ∷ 0 ∷ 0 ∷ 2 ∷ 2 ∷ []) ∷ grounded 5 24 0 (1 ∷ 0 ∷ 0 ∷ 0 ∷ 2 ∷ 2 ∷ []) ∷ grounded 6 24 0 (2 ∷ 1 ∷ 1 ∷ 0 ∷ 2 ∷ 2 ∷ [])
    ∷ grounded 7 24 0 (1 ∷ 0 ∷ 1 ∷ 0 ∷ 2 ∷ 2 ∷ []) ∷ grounded 8 24 11 [] ∷ grounded 1 23 4 [] ∷ grounded 1 25 4 [] ∷ [])
    ∷ script table211 (grounded 0 24 0 (0 ∷ 0 ∷ 0 ∷ 0 ∷ 2 ∷ 2 ∷ []) ∷ grounded 1 24 0 (1 ∷ 0 ∷ 0 ∷ 0 ∷ 2 ∷ 2 ∷ [])
    ∷ grounded 2 24 0 (0 ∷ 0 ∷ 1 ∷ 0 ∷ 2 ∷ 2 ∷ []) ∷ grounded 3 24 0 (1 ∷ 0 ∷ 1 ∷ 0 ∷ 2 ∷ 2 ∷ []) ∷ grounded 4 24 0 (0 ∷ 0 ∷ 0 ∷ 0 ∷ 1 ∷ 0 ∷ [])
    ∷ grounded 5 24 0 (1 ∷ 0 ∷ 0 ∷ 0 ∷ 1 ∷ 0 ∷ []) ∷ grounded 6 24 0 (0 ∷ 0 ∷ 1 ∷ 0 ∷ 1 ∷ 0 ∷ []) ∷ grounded 7 24 0 (1 ∷ 0 ∷ 1 ∷ 0 ∷ 1 ∷ 0 ∷ [])
    ∷ grounded 8 24 11 [] ∷ grounded 1 23 4 [] ∷ grounded 1 25 4 [] ∷ []) ∷ script table214 (grounded 0 24 0 (0 ∷ 0 ∷ 2 ∷ 2 ∷ 0 ∷ 0 ∷ [])
    ∷ grounded 1 24 0 (1 ∷ 0 ∷ 2 ∷ 2 ∷ 0 ∷ 0 ∷ []) ∷ grounded 2 24 0 (0 ∷ 0 ∷ 1 ∷ 0 ∷ 0 ∷ 0 ∷ []) ∷ grounded 3 24 0 (1 ∷ 0 ∷ 1 ∷ 0 ∷ 0 ∷ 0 ∷ [])
    ∷ grounded 4 24 0 (0 ∷ 0 ∷ 2 ∷ 2 ∷ 1 ∷ 0 ∷ []) ∷ grounded 5 24 0 (1 ∷ 0 ∷ 2 ∷ 2 ∷ 1 ∷ 0 ∷ []) ∷ grounded 6 24 0 (0 ∷ 0 ∷ 1 ∷ 0 ∷ 1 ∷ 0 ∷ [])
    ∷ grounded 7 24 0 (1 ∷ 0 ∷ 1 ∷ 0 ∷ 1 ∷ 0 ∷ []) ∷ grounded 8 24 11 [] ∷ grounded 1 23 4 [] ∷ grounded 1 25 4 [] ∷ [])
    ∷ script table218 (grounded 0 24 0 (0 ∷ 0 ∷ 2 ∷ 1 ∷ 2 ∷ 1 ∷ []) ∷ grounded 1 24 0 (1 ∷ 0 ∷ 2 ∷ 1 ∷ 2 ∷ 1 ∷ [])
    ∷ grounded 2 24 0 (0 ∷ 0 ∷ 2 ∷ 1 ∷ 2 ∷ 1 ∷ []) ∷ grounded 3 24 0 (1 ∷ 0 ∷ 2 ∷ 1 ∷ 2 ∷ 1 ∷ []) ∷ grounded 4 24 0 (0 ∷ 0 ∷ 2 ∷ 1 ∷ 2 ∷ 1 ∷ [])
    ∷ grounded 5 24 0 (1 ∷ 0 ∷ 2 ∷ 1 ∷ 2 ∷ 1 ∷ []) ∷ grounded 6 24 0 (0 ∷ 0 ∷ 2 ∷ 1 ∷ 2 ∷ 1 ∷ []) ∷ grounded 7 24 0 (1 ∷ 0 ∷ 2 ∷ 1 ∷ 2 ∷ 1 ∷ [])
    ∷ grounded 8 24 11 [] ∷ grounded 1 23 4 [] ∷ grounded 1 25 4 [] ∷ []) ∷ script table219 (grounded 0 24 0 (0 ∷ 0 ∷ 2 ∷ 1 ∷ 2 ∷ 1 ∷ [])
    ∷ grounded 1 24 0 (1 ∷ 0 ∷ 2 ∷ 1 ∷ 2 ∷ 1 ∷ []) ∷ grounded 2 24 0 (0 ∷ 0 ∷ 2 ∷ 1 ∷ 2 ∷ 1 ∷ []) ∷ grounded 3 24 0 (1 ∷ 0 ∷ 2 ∷ 1 ∷ 2 ∷ 1 ∷ [])
    ∷ grounded 4 24 0 (0 ∷ 0 ∷ 2 ∷ 1 ∷ 2 ∷ 1 ∷ []) ∷ grounded 5 24 0 (1 ∷ 0 ∷ 2 ∷ 1 ∷ 2 ∷ 1 ∷ []) ∷ grounded 6 24 0 (0 ∷ 0 ∷ 2 ∷ 1 ∷ 2 ∷ 1 ∷ [])
    ∷ grounded 7 24 0 (1 ∷ 0 ∷ 2 ∷ 1 ∷ 2 ∷ 1 ∷ []) ∷ grounded 8 24 11 [] ∷ grounded 1 23 4 [] ∷ grounded 1 25 4 [] ∷ []) ∷ []

pub grounds_unmade_agree : Agree grounds_unmade
unfolding grounds_on grounds layout decoded well_laid word put_word put_words failure_line rounds round
grounds_unmade_agree = refl

abbrev table253 : List ℕ
table253 = bytes (3 ∷ 2 ∷ 0 ∷ 0 ∷ 0 ∷ 0 ∷ 0 ∷ 0 ∷ 0 ∷ 0 ∷ 0 ∷ 0 ∷ 0 ∷ 1 ∷ 1 ∷ 0 ∷ 1 ∷ 1 ∷ 0 ∷ 0 ∷ 0 ∷ 0 ∷ 0 ∷ 0 ∷ 0 ∷ 0 ∷ 0 ∷ 0 ∷ 0 ∷ 0 ∷ 0 ∷ 0 ∷ 0 ∷ 0 ∷ 0
    ∷ [])

abbrev table254 : List ℕ
table254 = bytes (3 ∷ 2 ∷ 0 ∷ 0 ∷ 0 ∷ 0 ∷ 0 ∷ 0 ∷ 0 ∷ 0 ∷ 0 ∷ 0 ∷ 0 ∷ 1 ∷ 1 ∷ 0 ∷ 1 ∷ 1 ∷ 0 ∷ 0 ∷ 0 ∷ 0 ∷ 0 ∷ 0 ∷ 1 ∷ 1 ∷ 0 ∷ 1 ∷ 1 ∷ 0 ∷ 0 ∷ 0 ∷ 0 ∷ 0 ∷ 0
    ∷ [])

abbrev table255 : List ℕ
table255 = bytes (3 ∷ 2 ∷ 1 ∷ 1 ∷ 0 ∷ 1 ∷ 1 ∷ 0 ∷ 0 ∷ 0 ∷ 0 ∷ 0 ∷ 0 ∷ 1 ∷ 1 ∷ 0 ∷ 1 ∷ 1 ∷ 0 ∷ 0 ∷ 0 ∷ 0 ∷ 0 ∷ 0 ∷ 1 ∷ 1 ∷ 0 ∷ 1 ∷ 1 ∷ 0 ∷ 0 ∷ 0 ∷ 0 ∷ 0 ∷ 0
    ∷ [])

abbrev table256 : List ℕ
table256 = bytes (3 ∷ 2 ∷ 1 ∷ 1 ∷ 0 ∷ 1 ∷ 1 ∷ 0 ∷ 0 ∷ 0 ∷ 0 ∷ 0 ∷ 0 ∷ 0 ∷ 0 ∷ 0 ∷ 0 ∷ 0 ∷ 0 ∷ 0 ∷ 0 ∷ 0 ∷ 0 ∷ 0 ∷ 1 ∷ 1 ∷ 0 ∷ 1 ∷ 1 ∷ 0 ∷ 0 ∷ 0 ∷ 0 ∷ 0 ∷ 0
    ∷ [])

abbrev table257 : List ℕ
table257 = bytes (3 ∷ 2 ∷ 1 ∷ 1 ∷ 0 ∷ 1 ∷ 1 ∷ 0 ∷ 0 ∷ 0 ∷ 0 ∷ 0 ∷ 0 ∷ 0 ∷ 0 ∷ 0 ∷ 0 ∷ 0 ∷ 0 ∷ 0 ∷ 0 ∷ 0 ∷ 0 ∷ 0 ∷ 0 ∷ 0 ∷ 0 ∷ 0 ∷ 0 ∷ 0 ∷ 0 ∷ 0 ∷ 0 ∷ 0 ∷ 0
    ∷ [])

abbrev table258 : List ℕ
table258 = bytes (3 ∷ 2 ∷ 1 ∷ 1 ∷ 0 ∷ 1 ∷ 1 ∷ 0 ∷ 0 ∷ 0 ∷ 0 ∷ 0 ∷ 0 ∷ 1 ∷ 1 ∷ 0 ∷ 1 ∷ 1 ∷ 0 ∷ 0 ∷ 0 ∷ 0 ∷ 0 ∷ 0 ∷ 0 ∷ 0 ∷ 0 ∷ 0 ∷ 0 ∷ 0 ∷ 0 ∷ 0 ∷ 0 ∷ 0 ∷ 0
    ∷ [])

-- Numbered lines, and 15 where a process has no saved state: of the worked controller, a fresh table, and as processes save.
abbrev lines_saved : List Script
lines_saved = script table7 (accepted (line 0) 12 (0 ∷ 0 ∷ 0 ∷ []) table7 ∷ accepted (line 1) 12 (1 ∷ 2 ∷ 1 ∷ []) table7 ∷ refused (line 2) 12 15
    ∷ refused (line 2147483648) 12 15 ∷ refused (line 4294967295) 12 15 ∷ []) ∷ script table14 (accepted (line 0) 8 (0 ∷ 0 ∷ []) table14
    ∷ refused (line 1) 8 15 ∷ refused (line 2147483648) 8 15 ∷ refused (line 4294967295) 8 15 ∷ []) ∷ script table14 (accepted (line 0) 8 (0 ∷ 0 ∷ []) table14
    ∷ refused (line 1) 8 15 ∷ refused (line 2) 8 15 ∷ refused (line 0) 7 4 ∷ refused (line 1) 9 4 ∷ refused (line 1) 4 4 ∷ [])
    ∷ script (lent 140) (accepted (fresh 3 2) 0 [] table141 ∷ refused (line 1) 12 15 ∷ accepted (step 1 checkpoint) 4 (1 ∷ []) table253
    ∷ refused (line 1) 12 15 ∷ accepted (step 2 checkpoint) 4 (1 ∷ []) table254 ∷ refused (line 1) 12 15 ∷ accepted (step 0 checkpoint) 4 (1 ∷ []) table255
    ∷ accepted (line 1) 12 (1 ∷ 1 ∷ 1 ∷ []) table255 ∷ []) ∷ script (lent 140) (accepted (fresh 3 2) 0 [] table141 ∷ refused (line 1) 12 15
    ∷ accepted (step 2 checkpoint) 4 (1 ∷ []) table142 ∷ refused (line 1) 12 15 ∷ accepted (step 0 checkpoint) 4 (1 ∷ []) table256 ∷ refused (line 1) 12 15
    ∷ accepted (step 1 checkpoint) 4 (1 ∷ []) table255 ∷ accepted (line 1) 12 (1 ∷ 1 ∷ 1 ∷ []) table255 ∷ [])
    ∷ script (lent 140) (accepted (fresh 3 2) 0 [] table141 ∷ refused (line 1) 12 15 ∷ accepted (step 0 checkpoint) 4 (1 ∷ []) table257
    ∷ refused (line 1) 12 15 ∷ accepted (step 1 checkpoint) 4 (1 ∷ []) table258 ∷ refused (line 1) 12 15 ∷ accepted (step 2 checkpoint) 4 (1 ∷ []) table255
    ∷ accepted (line 1) 12 (1 ∷ 1 ∷ 1 ∷ []) table255 ∷ []) ∷ []

pub lines_saved_agree : Agree lines_saved
unfolding fresh_on step_on line_on failed_on resend_on layout decoded well_laid word put_word put_words failure_answer failure_line rounds round ones ones_in in_transit
lines_saved_agree = refl

abbrev table259 : List ℕ
table259 = bytes (1 ∷ 6 ∷ 2 ∷ 2 ∷ 0 ∷ 1 ∷ 5 ∷ 0 ∷ 0 ∷ 2 ∷ 2 ∷ 0 ∷ 0 ∷ 0 ∷ 0 ∷ 0 ∷ 0 ∷ 0 ∷ 0 ∷ 0 ∷ 0 ∷ 0 ∷ 0 ∷ 0 ∷ 0 ∷ 0 ∷ 0 ∷ 0 ∷ 0 ∷ [])

abbrev table260 : List ℕ
table260 = bytes (2 ∷ 6 ∷ 4 ∷ 0 ∷ 1 ∷ 3 ∷ 1 ∷ 1 ∷ 0 ∷ 1 ∷ 1 ∷ 0 ∷ 0 ∷ 2 ∷ 4 ∷ 0 ∷ 0 ∷ 1 ∷ 0 ∷ 0 ∷ 0 ∷ 0 ∷ 0 ∷ 0 ∷ 0 ∷ 0 ∷ 0 ∷ 0 ∷ 0 ∷ 6 ∷ 2 ∷ 0 ∷ 4 ∷ 0 ∷ 1
    ∷ 0 ∷ 2 ∷ 3 ∷ 0 ∷ 0 ∷ 4 ∷ 0 ∷ 1 ∷ 3 ∷ 1 ∷ 3 ∷ 0 ∷ 0 ∷ 1 ∷ 6 ∷ 0 ∷ 0 ∷ 1 ∷ 2 ∷ 0 ∷ 0 ∷ [])

abbrev table261 : List ℕ
table261 = bytes (2 ∷ 6 ∷ 1 ∷ 0 ∷ 0 ∷ 1 ∷ 0 ∷ 0 ∷ 0 ∷ 0 ∷ 0 ∷ 0 ∷ 0 ∷ 0 ∷ 0 ∷ 0 ∷ 0 ∷ 0 ∷ 0 ∷ 0 ∷ 0 ∷ 0 ∷ 0 ∷ 0 ∷ 0 ∷ 0 ∷ 0 ∷ 0 ∷ 0 ∷ 2 ∷ 1 ∷ 0 ∷ 2 ∷ 0 ∷ 0
    ∷ 0 ∷ 1 ∷ 1 ∷ 0 ∷ 0 ∷ 0 ∷ 0 ∷ 0 ∷ 0 ∷ 0 ∷ 0 ∷ 0 ∷ 0 ∷ 0 ∷ 0 ∷ 0 ∷ 0 ∷ 0 ∷ 0 ∷ 0 ∷ 0 ∷ [])

abbrev table262 : List ℕ
table262 = bytes (2 ∷ 6 ∷ 1 ∷ 3 ∷ 0 ∷ 1 ∷ 3 ∷ 0 ∷ 0 ∷ 0 ∷ 0 ∷ 0 ∷ 0 ∷ 0 ∷ 0 ∷ 0 ∷ 0 ∷ 0 ∷ 0 ∷ 0 ∷ 0 ∷ 0 ∷ 0 ∷ 0 ∷ 0 ∷ 0 ∷ 0 ∷ 0 ∷ 0 ∷ 2 ∷ 7 ∷ 1 ∷ 3 ∷ 0 ∷ 1
    ∷ 0 ∷ 2 ∷ 7 ∷ 0 ∷ 0 ∷ 0 ∷ 0 ∷ 0 ∷ 0 ∷ 0 ∷ 0 ∷ 0 ∷ 0 ∷ 0 ∷ 0 ∷ 0 ∷ 0 ∷ 0 ∷ 0 ∷ 0 ∷ 0 ∷ [])

abbrev table263 : List ℕ
table263 = bytes (2 ∷ 6 ∷ 1 ∷ 1 ∷ 0 ∷ 1 ∷ 1 ∷ 0 ∷ 0 ∷ 0 ∷ 0 ∷ 0 ∷ 0 ∷ 0 ∷ 0 ∷ 0 ∷ 0 ∷ 0 ∷ 0 ∷ 0 ∷ 0 ∷ 0 ∷ 0 ∷ 0 ∷ 0 ∷ 0 ∷ 0 ∷ 0 ∷ 0 ∷ 2 ∷ 0 ∷ 1 ∷ 3 ∷ 0 ∷ 1
    ∷ 0 ∷ 4 ∷ 0 ∷ 1 ∷ 0 ∷ 0 ∷ 0 ∷ 0 ∷ 0 ∷ 0 ∷ 0 ∷ 0 ∷ 0 ∷ 0 ∷ 0 ∷ 0 ∷ 0 ∷ 0 ∷ 0 ∷ 0 ∷ 0 ∷ [])

abbrev table264 : List ℕ
table264 = bytes (3 ∷ 6 ∷ 1 ∷ 2 ∷ 0 ∷ 2 ∷ 2 ∷ 0 ∷ 0 ∷ 0 ∷ 0 ∷ 0 ∷ 0 ∷ 0 ∷ 0 ∷ 0 ∷ 0 ∷ 0 ∷ 0 ∷ 0 ∷ 0 ∷ 0 ∷ 0 ∷ 0 ∷ 0 ∷ 0 ∷ 0 ∷ 0 ∷ 0 ∷ 2 ∷ 1 ∷ 0 ∷ 1 ∷ 0 ∷ 0
    ∷ 0 ∷ 1 ∷ 1 ∷ 0 ∷ 0 ∷ 0 ∷ 0 ∷ 0 ∷ 0 ∷ 0 ∷ 0 ∷ 0 ∷ 0 ∷ 0 ∷ 0 ∷ 0 ∷ 0 ∷ 0 ∷ 0 ∷ 0 ∷ 0 ∷ 2 ∷ 1 ∷ 0 ∷ 1 ∷ 18 ∷ 0 ∷ 0 ∷ 1 ∷ 1 ∷ 0 ∷ 0 ∷ 0 ∷ 0 ∷ 0 ∷ 0 ∷ 0 ∷ 0
    ∷ 0 ∷ 0 ∷ 0 ∷ 0 ∷ 0 ∷ 0 ∷ 0 ∷ 0 ∷ 0 ∷ 0 ∷ [])

abbrev table265 : List ℕ
table265 = bytes (1 ∷ 6 ∷ 2 ∷ 5 ∷ 0 ∷ 1 ∷ 6 ∷ 0 ∷ 0 ∷ 2 ∷ 5 ∷ 0 ∷ 0 ∷ 0 ∷ 0 ∷ 0 ∷ 0 ∷ 0 ∷ 0 ∷ 0 ∷ 0 ∷ 0 ∷ 0 ∷ 0 ∷ 0 ∷ 0 ∷ 0 ∷ 0 ∷ 0 ∷ [])

-- Numbered lines where numbers fall, are skipped, or are 0.
abbrev lines_fallen : List Script
lines_fallen = script table259 (accepted (line 0) 4 (0 ∷ []) table259 ∷ accepted (line 1) 4 (1 ∷ []) table259 ∷ accepted (line 2) 4 (1 ∷ []) table259
    ∷ accepted (line 3) 4 (1 ∷ []) table259 ∷ accepted (line 4) 4 (1 ∷ []) table259 ∷ accepted (line 5) 4 (1 ∷ []) table259 ∷ refused (line 6) 4 15
    ∷ refused (line 2147483648) 4 15 ∷ refused (line 4294967295) 4 15 ∷ []) ∷ script table260 (accepted (line 0) 8 (0 ∷ 0 ∷ []) table260
    ∷ accepted (line 1) 8 (2 ∷ 2 ∷ []) table260 ∷ accepted (line 2) 8 (3 ∷ 2 ∷ []) table260 ∷ accepted (line 3) 8 (3 ∷ 2 ∷ []) table260
    ∷ accepted (line 4) 8 (3 ∷ 5 ∷ []) table260 ∷ refused (line 5) 8 15 ∷ refused (line 2147483648) 8 15 ∷ refused (line 4294967295) 8 15 ∷ [])
    ∷ script table261 (accepted (line 0) 8 (0 ∷ 0 ∷ []) table261 ∷ refused (line 1) 8 15 ∷ refused (line 2147483648) 8 15 ∷ refused (line 4294967295) 8 15
    ∷ []) ∷ script table262 (accepted (line 0) 8 (0 ∷ 0 ∷ []) table262 ∷ accepted (line 1) 8 (1 ∷ 2 ∷ []) table262 ∷ accepted (line 2) 8 (1 ∷ 2 ∷ []) table262
    ∷ accepted (line 3) 8 (1 ∷ 2 ∷ []) table262 ∷ refused (line 4) 8 15 ∷ refused (line 2147483648) 8 15 ∷ refused (line 4294967295) 8 15 ∷ [])
    ∷ script table263 (accepted (line 0) 8 (0 ∷ 0 ∷ []) table263 ∷ refused (line 1) 8 15 ∷ refused (line 2147483648) 8 15 ∷ refused (line 4294967295) 8 15
    ∷ []) ∷ script table264 (accepted (line 0) 12 (0 ∷ 0 ∷ 0 ∷ []) table264 ∷ accepted (line 1) 12 (1 ∷ 2 ∷ 1 ∷ []) table264 ∷ refused (line 2) 12 15
    ∷ refused (line 2147483648) 12 15 ∷ refused (line 4294967295) 12 15 ∷ []) ∷ script table265 (accepted (line 0) 4 (0 ∷ []) table265
    ∷ accepted (line 1) 4 (1 ∷ []) table265 ∷ accepted (line 2) 4 (1 ∷ []) table265 ∷ accepted (line 3) 4 (1 ∷ []) table265
    ∷ accepted (line 4) 4 (1 ∷ []) table265 ∷ accepted (line 5) 4 (1 ∷ []) table265 ∷ accepted (line 6) 4 (1 ∷ []) table265 ∷ refused (line 7) 4 15
    ∷ refused (line 2147483648) 4 15 ∷ refused (line 4294967295) 4 15 ∷ []) ∷ []

pub lines_fallen_agree : Agree lines_fallen
unfolding fresh_on step_on line_on failed_on resend_on layout decoded well_laid word put_word put_words failure_answer failure_line rounds round ones ones_in in_transit
lines_fallen_agree = refl

-- The last numbered lines of the tables that the runs left, and 4 before 15.
abbrev lines_made : List Script
lines_made = script table107 (accepted (line 0) 4 (0 ∷ []) table107 ∷ accepted (line 1) 4 (1 ∷ []) table107 ∷ refused (line 2) 4 15 ∷ refused (line 3) 4 15
    ∷ refused (line 1) 3 4 ∷ refused (line 2) 5 4 ∷ refused (line 2) 0 4 ∷ []) ∷ script table109 (accepted (line 0) 4 (0 ∷ []) table109
    ∷ accepted (line 1) 4 (1 ∷ []) table109 ∷ refused (line 2) 4 15 ∷ refused (line 3) 4 15 ∷ refused (line 1) 3 4 ∷ refused (line 2) 5 4
    ∷ refused (line 2) 0 4 ∷ []) ∷ script table112 (accepted (line 0) 8 (0 ∷ 0 ∷ []) table112 ∷ refused (line 1) 8 15 ∷ refused (line 2) 8 15
    ∷ refused (line 0) 7 4 ∷ refused (line 1) 9 4 ∷ refused (line 1) 4 4 ∷ []) ∷ script table119 (accepted (line 0) 8 (0 ∷ 0 ∷ []) table119
    ∷ refused (line 1) 8 15 ∷ refused (line 2) 8 15 ∷ refused (line 0) 7 4 ∷ refused (line 1) 9 4 ∷ refused (line 1) 4 4 ∷ [])
    ∷ script table127 (accepted (line 0) 8 (0 ∷ 0 ∷ []) table127 ∷ refused (line 1) 8 15 ∷ refused (line 2) 8 15 ∷ refused (line 0) 7 4 ∷ refused (line 1) 9 4
    ∷ refused (line 1) 4 4 ∷ []) ∷ script table140 (accepted (line 1) 8 (1 ∷ 1 ∷ []) table140 ∷ accepted (line 2) 8 (4 ∷ 2 ∷ []) table140
    ∷ refused (line 3) 8 15 ∷ refused (line 4) 8 15 ∷ refused (line 2) 7 4 ∷ refused (line 3) 9 4 ∷ refused (line 3) 4 4 ∷ [])
    ∷ script table147 (accepted (line 0) 12 (0 ∷ 0 ∷ 0 ∷ []) table147 ∷ refused (line 1) 12 15 ∷ refused (line 2) 12 15 ∷ refused (line 0) 11 4
    ∷ refused (line 1) 13 4 ∷ refused (line 1) 8 4 ∷ []) ∷ script table155 (accepted (line 0) 12 (0 ∷ 0 ∷ 0 ∷ []) table155 ∷ refused (line 1) 12 15
    ∷ refused (line 2) 12 15 ∷ refused (line 0) 11 4 ∷ refused (line 1) 13 4 ∷ refused (line 1) 8 4 ∷ [])
    ∷ script table168 (accepted (line 0) 12 (0 ∷ 0 ∷ 0 ∷ []) table168 ∷ accepted (line 1) 12 (1 ∷ 2 ∷ 2 ∷ []) table168 ∷ refused (line 2) 12 15
    ∷ refused (line 3) 12 15 ∷ refused (line 1) 11 4 ∷ refused (line 2) 13 4 ∷ refused (line 2) 8 4 ∷ [])
    ∷ script table184 (accepted (line 0) 12 (0 ∷ 0 ∷ 0 ∷ []) table184 ∷ refused (line 1) 12 15 ∷ refused (line 2) 12 15 ∷ refused (line 0) 11 4
    ∷ refused (line 1) 13 4 ∷ refused (line 1) 8 4 ∷ []) ∷ []

pub lines_made_agree : Agree lines_made
unfolding fresh_on step_on line_on failed_on resend_on layout decoded well_laid word put_word put_words failure_answer failure_line rounds round ones ones_in in_transit
lines_made_agree = refl

-- The last numbered lines of the well laid tables that no run makes, and 4 before 15.
abbrev lines_unmade : List Script
lines_unmade = script table185 (accepted (line 0) 4 (0 ∷ []) table185 ∷ refused (line 1) 4 15 ∷ refused (line 2) 4 15 ∷ refused (line 0) 3 4
    ∷ refused (line 1) 5 4 ∷ refused (line 1) 0 4 ∷ []) ∷ script table186 (accepted (line 0) 4 (0 ∷ []) table186 ∷ accepted (line 1) 4 (1 ∷ []) table186
    ∷ refused (line 2) 4 15 ∷ refused (line 3) 4 15 ∷ refused (line 1) 3 4 ∷ refused (line 2) 5 4 ∷ refused (line 2) 0 4 ∷ [])
    ∷ script table189 (accepted (line 0) 8 (0 ∷ 0 ∷ []) table189 ∷ refused (line 1) 8 15 ∷ refused (line 2) 8 15 ∷ refused (line 0) 7 4 ∷ refused (line 1) 9 4
    ∷ refused (line 1) 4 4 ∷ []) ∷ script table191 (accepted (line 0) 8 (0 ∷ 0 ∷ []) table191 ∷ refused (line 1) 8 15 ∷ refused (line 2) 8 15
    ∷ refused (line 0) 7 4 ∷ refused (line 1) 9 4 ∷ refused (line 1) 4 4 ∷ []) ∷ script table193 (accepted (line 0) 8 (0 ∷ 0 ∷ []) table193
    ∷ accepted (line 1) 8 (2 ∷ 1 ∷ []) table193 ∷ refused (line 2) 8 15 ∷ refused (line 3) 8 15 ∷ refused (line 1) 7 4 ∷ refused (line 2) 9 4
    ∷ refused (line 2) 4 4 ∷ []) ∷ script table195 (accepted (line 7) 8 (2 ∷ 1 ∷ []) table195 ∷ accepted (line 8) 8 (2 ∷ 1 ∷ []) table195
    ∷ refused (line 9) 8 15 ∷ refused (line 10) 8 15 ∷ refused (line 8) 7 4 ∷ refused (line 9) 9 4 ∷ refused (line 9) 4 4 ∷ [])
    ∷ script table197 (accepted (line 0) 8 (0 ∷ 0 ∷ []) table197 ∷ refused (line 1) 8 15 ∷ refused (line 2) 8 15 ∷ refused (line 0) 7 4 ∷ refused (line 1) 9 4
    ∷ refused (line 1) 4 4 ∷ []) ∷ script table200 (accepted (line 0) 8 (0 ∷ 0 ∷ []) table200 ∷ refused (line 1) 8 15 ∷ refused (line 2) 8 15
    ∷ refused (line 0) 7 4 ∷ refused (line 1) 9 4 ∷ refused (line 1) 4 4 ∷ []) ∷ script table203 (accepted (line 0) 12 (0 ∷ 0 ∷ 0 ∷ []) table203
    ∷ refused (line 1) 12 15 ∷ refused (line 2) 12 15 ∷ refused (line 0) 11 4 ∷ refused (line 1) 13 4 ∷ refused (line 1) 8 4 ∷ [])
    ∷ script table209 (accepted (line 0) 12 (0 ∷ 0 ∷ 0 ∷ []) table209 ∷ refused (line 1) 12 15 ∷ refused (line 2) 12 15 ∷ refused (line 0) 11 4
    ∷ refused (line 1) 13 4 ∷ refused (line 1) 8 4 ∷ []) ∷ script table211 (accepted (line 0) 12 (0 ∷ 0 ∷ 0 ∷ []) table211 ∷ refused (line 1) 12 15
    ∷ refused (line 2) 12 15 ∷ refused (line 0) 11 4 ∷ refused (line 1) 13 4 ∷ refused (line 1) 8 4 ∷ [])
    ∷ script table214 (accepted (line 0) 12 (0 ∷ 0 ∷ 0 ∷ []) table214 ∷ refused (line 1) 12 15 ∷ refused (line 2) 12 15 ∷ refused (line 0) 11 4
    ∷ refused (line 1) 13 4 ∷ refused (line 1) 8 4 ∷ []) ∷ script table218 (accepted (line 0) 12 (0 ∷ 0 ∷ 0 ∷ []) table218 ∷ refused (line 1) 12 15
    ∷ refused (line 2) 12 15 ∷ refused (line 0) 11 4 ∷ refused (line 1) 13 4 ∷ refused (line 1) 8 4 ∷ [])
    ∷ script table219 (accepted (line 0) 12 (0 ∷ 0 ∷ 0 ∷ []) table219 ∷ refused (line 1) 12 15 ∷ refused (line 2) 12 15 ∷ refused (line 0) 11 4
    ∷ refused (line 1) 13 4 ∷ refused (line 1) 8 4 ∷ []) ∷ []

pub lines_unmade_agree : Agree lines_unmade
unfolding fresh_on step_on line_on failed_on resend_on layout decoded well_laid word put_word put_words failure_answer failure_line rounds round ones ones_in in_transit
lines_unmade_agree = refl

abbrev table266 : List ℕ
table266 = bytes (2 ∷ 2 ∷ 2 ∷ 1 ∷ 0 ∷ 2 ∷ 1 ∷ 0 ∷ 0 ∷ 4 ∷ 1 ∷ 1 ∷ 1 ∷ 2 ∷ 1 ∷ 1 ∷ 1 ∷ 1 ∷ 0 ∷ 0 ∷ 3 ∷ 0 ∷ 1 ∷ 1 ∷ [])

abbrev table267 : List ℕ
table267 = bytes (2 ∷ 3 ∷ 3 ∷ 2 ∷ 1 ∷ 3 ∷ 1 ∷ 1 ∷ 0 ∷ 2 ∷ 2 ∷ 0 ∷ 0 ∷ 4 ∷ 1 ∷ 1 ∷ 2 ∷ 3 ∷ 2 ∷ 1 ∷ 1 ∷ 1 ∷ 0 ∷ 0 ∷ 1 ∷ 2 ∷ 0 ∷ 0 ∷ 3 ∷ 0 ∷ 1 ∷ 2 ∷ [])

abbrev table268 : List ℕ
table268 = bytes (2 ∷ 4 ∷ 4 ∷ 1 ∷ 1 ∷ 4 ∷ 1 ∷ 1 ∷ 0 ∷ 2 ∷ 1 ∷ 0 ∷ 0 ∷ 4 ∷ 1 ∷ 2 ∷ 1 ∷ 3 ∷ 1 ∷ 1 ∷ 1 ∷ 4 ∷ 1 ∷ 3 ∷ 3 ∷ 0 ∷ 1 ∷ 0 ∷ 1 ∷ 1 ∷ 0 ∷ 0 ∷ 3 ∷ 0 ∷ 2
    ∷ 1 ∷ 3 ∷ 0 ∷ 3 ∷ 1 ∷ [])

abbrev table269 : List ℕ
table269 = bytes (2 ∷ 4 ∷ 4 ∷ 1 ∷ 3 ∷ 3 ∷ 1 ∷ 1 ∷ 0 ∷ 3 ∷ 1 ∷ 2 ∷ 0 ∷ 1 ∷ 1 ∷ 0 ∷ 0 ∷ 3 ∷ 1 ∷ 3 ∷ 1 ∷ 4 ∷ 1 ∷ 0 ∷ 4 ∷ 0 ∷ 1 ∷ 0 ∷ 2 ∷ 1 ∷ 0 ∷ 0 ∷ 4 ∷ 0 ∷ 3
    ∷ 1 ∷ 4 ∷ 0 ∷ 2 ∷ 0 ∷ [])

abbrev table270 : List ℕ
table270 = bytes (3 ∷ 3 ∷ 3 ∷ 1 ∷ 1 ∷ 4 ∷ 1 ∷ 1 ∷ 0 ∷ 1 ∷ 1 ∷ 0 ∷ 0 ∷ 3 ∷ 1 ∷ 1 ∷ 1 ∷ 3 ∷ 1 ∷ 1 ∷ 3 ∷ 0 ∷ 1 ∷ 0 ∷ 2 ∷ 1 ∷ 0 ∷ 0 ∷ 4 ∷ 0 ∷ 1 ∷ 1 ∷ 3 ∷ 2 ∷ 1
    ∷ 1 ∷ 1 ∷ 0 ∷ 0 ∷ 1 ∷ 2 ∷ 0 ∷ 0 ∷ 3 ∷ 0 ∷ 1 ∷ 2 ∷ [])

abbrev table271 : List ℕ
table271 = bytes (3 ∷ 4 ∷ 4 ∷ 2 ∷ 1 ∷ 1 ∷ 1 ∷ 0 ∷ 0 ∷ 3 ∷ 2 ∷ 1 ∷ 1 ∷ 1 ∷ 2 ∷ 0 ∷ 0 ∷ 4 ∷ 2 ∷ 1 ∷ 0 ∷ 4 ∷ 1 ∷ 3 ∷ 1 ∷ 1 ∷ 0 ∷ 0 ∷ 3 ∷ 0 ∷ 1 ∷ 1 ∷ 3 ∷ 2 ∷ 2
    ∷ 1 ∷ 3 ∷ 2 ∷ 3 ∷ 1 ∷ 4 ∷ 1 ∷ 2 ∷ 3 ∷ 0 ∷ 1 ∷ 0 ∷ 3 ∷ 0 ∷ 2 ∷ 0 ∷ 2 ∷ 1 ∷ 0 ∷ 0 ∷ 4 ∷ 1 ∷ 3 ∷ 1 ∷ [])

abbrev table272 : List ℕ
table272 = bytes (3 ∷ 4 ∷ 4 ∷ 1 ∷ 2 ∷ 3 ∷ 2 ∷ 1 ∷ 0 ∷ 1 ∷ 1 ∷ 0 ∷ 0 ∷ 3 ∷ 2 ∷ 2 ∷ 1 ∷ 4 ∷ 2 ∷ 1 ∷ 0 ∷ 4 ∷ 0 ∷ 4 ∷ 3 ∷ 2 ∷ 1 ∷ 0 ∷ 3 ∷ 0 ∷ 2 ∷ 0 ∷ 3 ∷ 2 ∷ 3
    ∷ 0 ∷ 3 ∷ 2 ∷ 4 ∷ 0 ∷ 4 ∷ 1 ∷ 1 ∷ 3 ∷ 0 ∷ 1 ∷ 0 ∷ 4 ∷ 1 ∷ 1 ∷ 0 ∷ 2 ∷ 1 ∷ 0 ∷ 0 ∷ 4 ∷ 0 ∷ 2 ∷ 1 ∷ [])

-- The checkpoints of tables that runs leave: the cut through each, and that some cut uses it.
abbrev saves_made : List Saves
saves_made = saves table187 (save 0 1 (1 ∷ []) true ∷ save 0 2 (2 ∷ []) true ∷ []) ∷ saves table266 (save 0 1 (1 ∷ 1 ∷ []) true ∷ save 1 1 (1 ∷ 1 ∷ []) true
    ∷ []) ∷ saves table267 (save 0 2 (2 ∷ 2 ∷ []) true ∷ save 1 1 (2 ∷ 1 ∷ []) true ∷ save 1 2 (2 ∷ 2 ∷ []) true ∷ [])
    ∷ saves table268 (save 0 2 (2 ∷ 2 ∷ []) true ∷ save 1 2 (2 ∷ 2 ∷ []) true ∷ []) ∷ saves table269 (save 0 3 (3 ∷ 2 ∷ []) true ∷ save 1 2 (3 ∷ 2 ∷ []) true
    ∷ []) ∷ saves table270 (save 0 2 (2 ∷ 2 ∷ 1 ∷ []) true ∷ save 1 2 (2 ∷ 2 ∷ 1 ∷ []) true ∷ save 2 1 (2 ∷ 2 ∷ 1 ∷ []) true ∷ save 2 2 (3 ∷ 3 ∷ 2 ∷ []) true
    ∷ []) ∷ saves table271 (save 0 1 (1 ∷ 1 ∷ 3 ∷ []) true ∷ save 0 3 (3 ∷ 4 ∷ 4 ∷ []) true ∷ save 1 1 (1 ∷ 1 ∷ 3 ∷ []) true ∷ save 2 3 (1 ∷ 1 ∷ 3 ∷ []) true
    ∷ []) ∷ saves table272 (save 0 2 (2 ∷ 4 ∷ 3 ∷ []) true ∷ save 2 3 (2 ∷ 4 ∷ 3 ∷ []) true ∷ []) ∷ []

pub saves_made_agree : AgreeSaves saves_made
unfolding decoded word put_word put_words
saves_made_agree = refl

abbrev table273 : List ℕ
table273 = bytes (2 ∷ 3 ∷ 3 ∷ 1 ∷ 1 ∷ 4 ∷ 1 ∷ 1 ∷ 0 ∷ 1 ∷ 1 ∷ 0 ∷ 0 ∷ 3 ∷ 1 ∷ 1 ∷ 1 ∷ 2 ∷ 0 ∷ 1 ∷ 4 ∷ 0 ∷ 1 ∷ 0 ∷ 3 ∷ 0 ∷ 1 ∷ 0 ∷ 0 ∷ 0 ∷ 0 ∷ 0 ∷ [])

abbrev table274 : List ℕ
table274 = bytes (2 ∷ 3 ∷ 3 ∷ 1 ∷ 1 ∷ 4 ∷ 1 ∷ 1 ∷ 0 ∷ 1 ∷ 1 ∷ 0 ∷ 0 ∷ 3 ∷ 1 ∷ 1 ∷ 1 ∷ 3 ∷ 1 ∷ 1 ∷ 2 ∷ 1 ∷ 0 ∷ 0 ∷ 4 ∷ 0 ∷ 1 ∷ 1 ∷ 3 ∷ 0 ∷ 1 ∷ 1 ∷ [])

abbrev table275 : List ℕ
table275 = bytes (2 ∷ 3 ∷ 3 ∷ 1 ∷ 1 ∷ 4 ∷ 1 ∷ 1 ∷ 0 ∷ 1 ∷ 1 ∷ 0 ∷ 0 ∷ 3 ∷ 1 ∷ 1 ∷ 1 ∷ 3 ∷ 1 ∷ 1 ∷ 3 ∷ 0 ∷ 1 ∷ 0 ∷ 4 ∷ 0 ∷ 1 ∷ 0 ∷ 2 ∷ 1 ∷ 0 ∷ 0 ∷ [])

abbrev table276 : List ℕ
table276 = bytes (1 ∷ 3 ∷ 3 ∷ 1 ∷ 0 ∷ 1 ∷ 0 ∷ 0 ∷ 0 ∷ 2 ∷ 3 ∷ 0 ∷ 0 ∷ 1 ∷ 1 ∷ 0 ∷ 0 ∷ [])

abbrev table277 : List ℕ
table277 = bytes (2 ∷ 2 ∷ 2 ∷ 0 ∷ 0 ∷ 2 ∷ 0 ∷ 0 ∷ 0 ∷ 4 ∷ 1 ∷ 2 ∷ 0 ∷ 1 ∷ 1 ∷ 0 ∷ 1 ∷ 1 ∷ 0 ∷ 0 ∷ 0 ∷ 0 ∷ 0 ∷ 0 ∷ [])

abbrev table278 : List ℕ
table278 = bytes (2 ∷ 3 ∷ 1 ∷ 0 ∷ 0 ∷ 2 ∷ 0 ∷ 0 ∷ 0 ∷ 0 ∷ 0 ∷ 0 ∷ 0 ∷ 0 ∷ 0 ∷ 0 ∷ 0 ∷ 2 ∷ 0 ∷ 0 ∷ 4 ∷ 0 ∷ 3 ∷ 0 ∷ 2 ∷ 0 ∷ 0 ∷ 0 ∷ 0 ∷ 0 ∷ 0 ∷ 0 ∷ [])

abbrev table279 : List ℕ
table279 = bytes (2 ∷ 4 ∷ 3 ∷ 0 ∷ 2 ∷ 3 ∷ 1 ∷ 1 ∷ 0 ∷ 3 ∷ 1 ∷ 2 ∷ 0 ∷ 2 ∷ 0 ∷ 0 ∷ 0 ∷ 0 ∷ 0 ∷ 0 ∷ 0 ∷ 0 ∷ 0 ∷ 0 ∷ 0 ∷ 0 ∷ 0 ∷ 0 ∷ 0 ∷ 0 ∷ 0 ∷ 0 ∷ 0 ∷ 0 ∷ 0
    ∷ 0 ∷ 0 ∷ 0 ∷ 0 ∷ 0 ∷ [])

abbrev table280 : List ℕ
table280 = bytes (2 ∷ 4 ∷ 3 ∷ 0 ∷ 1 ∷ 3 ∷ 1 ∷ 1 ∷ 0 ∷ 4 ∷ 1 ∷ 4 ∷ 0 ∷ 1 ∷ 0 ∷ 0 ∷ 0 ∷ 0 ∷ 0 ∷ 0 ∷ 0 ∷ 3 ∷ 0 ∷ 1 ∷ 1 ∷ 0 ∷ 0 ∷ 0 ∷ 3 ∷ 0 ∷ 1 ∷ 0 ∷ 4 ∷ 0 ∷ 1
    ∷ 0 ∷ 0 ∷ 0 ∷ 0 ∷ 0 ∷ [])

abbrev table281 : List ℕ
table281 = bytes (3 ∷ 3 ∷ 2 ∷ 1 ∷ 0 ∷ 1 ∷ 1 ∷ 0 ∷ 0 ∷ 4 ∷ 1 ∷ 1 ∷ 0 ∷ 0 ∷ 0 ∷ 0 ∷ 0 ∷ 3 ∷ 0 ∷ 2 ∷ 3 ∷ 2 ∷ 1 ∷ 0 ∷ 4 ∷ 2 ∷ 3 ∷ 0 ∷ 3 ∷ 0 ∷ 2 ∷ 0 ∷ 2 ∷ 0 ∷ 1
    ∷ 3 ∷ 1 ∷ 1 ∷ 0 ∷ 4 ∷ 1 ∷ 2 ∷ 0 ∷ 0 ∷ 0 ∷ 0 ∷ 0 ∷ [])

abbrev table282 : List ℕ
table282 = bytes (3 ∷ 4 ∷ 4 ∷ 0 ∷ 3 ∷ 3 ∷ 1 ∷ 1 ∷ 0 ∷ 4 ∷ 2 ∷ 4 ∷ 0 ∷ 3 ∷ 2 ∷ 2 ∷ 0 ∷ 3 ∷ 2 ∷ 3 ∷ 0 ∷ 3 ∷ 0 ∷ 2 ∷ 1 ∷ 0 ∷ 0 ∷ 0 ∷ 3 ∷ 0 ∷ 1 ∷ 0 ∷ 3 ∷ 2 ∷ 2
    ∷ 0 ∷ 0 ∷ 0 ∷ 0 ∷ 0 ∷ 4 ∷ 0 ∷ 1 ∷ 3 ∷ 1 ∷ 1 ∷ 0 ∷ 4 ∷ 0 ∷ 2 ∷ 0 ∷ 4 ∷ 1 ∷ 3 ∷ 0 ∷ 2 ∷ 0 ∷ 0 ∷ 0 ∷ [])

abbrev table283 : List ℕ
table283 = bytes (3 ∷ 4 ∷ 4 ∷ 4 ∷ 1 ∷ 1 ∷ 1 ∷ 0 ∷ 0 ∷ 1 ∷ 1 ∷ 0 ∷ 0 ∷ 3 ∷ 1 ∷ 1 ∷ 1 ∷ 1 ∷ 4 ∷ 0 ∷ 0 ∷ 3 ∷ 11 ∷ 1 ∷ 1 ∷ 0 ∷ 0 ∷ 0 ∷ 1 ∷ 11 ∷ 0 ∷ 0 ∷ 3 ∷ 0 ∷ 1
    ∷ 11 ∷ 0 ∷ 0 ∷ 0 ∷ 0 ∷ 1 ∷ 0 ∷ 0 ∷ 4 ∷ 1 ∷ 3 ∷ 0 ∷ 0 ∷ 0 ∷ 0 ∷ 0 ∷ 0 ∷ 0 ∷ 0 ∷ 0 ∷ 0 ∷ 0 ∷ 0 ∷ 0 ∷ [])

-- The checkpoints of well laid tables that no run makes, some of which no cut uses.
abbrev saves_unmade : List Saves
saves_unmade = saves table273 (save 0 2 (2 ∷ 2 ∷ []) false ∷ []) ∷ saves table274 (save 0 2 (2 ∷ 1 ∷ []) false ∷ save 1 1 (2 ∷ 1 ∷ []) true ∷ [])
    ∷ saves table275 (save 0 2 (2 ∷ 3 ∷ []) false ∷ save 1 3 (2 ∷ 3 ∷ []) true ∷ []) ∷ saves table276 (save 0 1 (1 ∷ []) true ∷ save 0 2 (2 ∷ []) true
    ∷ save 0 3 (3 ∷ []) true ∷ []) ∷ saves table277 (save 0 1 (1 ∷ 0 ∷ []) true ∷ save 1 1 (2 ∷ 1 ∷ []) true ∷ [])
    ∷ saves table278 (save 0 1 (1 ∷ 0 ∷ []) true ∷ save 1 2 (0 ∷ 2 ∷ []) false ∷ []) ∷ saves table279 (save 0 3 (3 ∷ 0 ∷ []) true ∷ [])
    ∷ saves table280 (save 0 3 (3 ∷ 0 ∷ []) false ∷ save 1 1 (0 ∷ 1 ∷ []) true ∷ []) ∷ saves table281 (save 0 1 (1 ∷ 3 ∷ 2 ∷ []) true ∷ [])
    ∷ saves table282 (save 1 1 (0 ∷ 1 ∷ 0 ∷ []) true ∷ save 2 4 (0 ∷ 0 ∷ 4 ∷ []) false ∷ []) ∷ saves table283 (save 0 1 (1 ∷ 2 ∷ 1 ∷ []) true
    ∷ save 0 2 (2 ∷ 2 ∷ 1 ∷ []) true ∷ save 0 4 (4 ∷ 2 ∷ 1 ∷ []) true ∷ save 1 1 (0 ∷ 1 ∷ 0 ∷ []) true ∷ save 1 2 (4 ∷ 2 ∷ 1 ∷ []) true ∷ []) ∷ []

pub saves_unmade_agree : AgreeSaves saves_unmade
unfolding decoded word put_word put_words
saves_unmade_agree = refl
