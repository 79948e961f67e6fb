-- Demand 3, stated. Proved as `two_lists` in proofs/Demand3.antt.
--
-- "For every two lists of checkpoints, sends and receipts, refused ones included": l₁ and l₂. "An entry is a checkpoint p, a send p, q
-- or a receipt p, q, k, with whatever numbers, and is lent an answer area for itself, of whatever length": Entry.
-- "Each run from a fresh table of the same dimensions": t₁ and t₂ are "the whole table that an accepted fresh call left", whatever
-- bytes lent₁ and lent₂ it was lent, "and both lists have the same n and E".
-- "Whatever turns the processes take and whichever messages overtake others": the order in a list is free.
-- "Every call gets the table as the one before left it", and "a refused call stays in its list": outcomes_on and table_after, by the
-- outcome to which each exported call is held.
-- "What this document says for a list comes from the entries alone": said_all and run, which begin with no records.
-- Document 02, slip 8: a numbered line is answered or refused, and "demand 3 owes freedom from orphans for each line that is answered".
use Rattle.std.specs.Prelude.{◌≡◌, ◌↔◌, ◌≢◌, true, cond, List, ℕ, ◌*◌, ◌<◌, length, get_or}
use Rattle.xdr.specs.Words.{bytes, words}
use Rattle.rules.specs.Records.{State, history}
use Rattle.rules.specs.Table.{layout, fresh}
use Rattle.rules.specs.Lines.{NoOrphan, saved, lacking, numbered_line}
use Rattle.rules.specs.Calls.{outcome, fresh_on, line_on, first, table_rows}
use Rattle.rules.specs.Lists.{Entry, outcomes_on, table_after, accepted_calls, check, run, said_all}

-- What holds of every numbered line N, "for every 32-bit N", that is asked for on a table t of n processes, whose records are s, "with an
-- area of the exact length".
pub record Lined (n : ℕ) (t : List ℕ) (s : State) : Type 0 where
  -- it is "refused if some process has no saved checkpoint of that number or more", with 15 and the area as it was, else answered with its
  -- positions; the table stays as it was
  pub answered : (N : ℕ) (area : List ℕ) → length area ≡ 4 * n
      → line_on t area N ≡ cond (lacking N s) (outcome 15 t area) (outcome 0 t (bytes (numbered_line N s)))
  -- an answered one "holds no receipt without its send": "when the positions answered have an orphan", which none has
  pub clean : (N : ℕ) (area : List ℕ) → length area ≡ 4 * n → (line_on t area N).returned ≡ 0 → NoOrphan s (words (line_on t area N).area)
  -- and each of its positions is 0 or a checkpoint's
  pub all_saved : (N : ℕ) (area : List ℕ) → length area ≡ 4 * n → (line_on t area N).returned ≡ 0 → (p : ℕ) → p < n
      → saved (history s p) (get_or (words (line_on t area N).area) p 0) ≡ true

-- What holds of one list l that begins on the table t; s are the records that its entries give.
pub record AfterList (n E : ℕ) (t : List ℕ) (l : List Entry) (s : State) : Type 0 where
  -- "each call is accepted or refused as document 01 says": the number that it returns, and the table and the area that it leaves
  pub answered : outcomes_on t l ≡ said_all n E (fresh n) l
  -- the table after the list holds the records s
  pub left : table_after t l ≡ layout n E s
  -- "after each list every numbered line is answered as document 01 says", "asked for on the table after the list", "and holds no receipt
  -- without its send"
  pub lined : Lined n (table_after t l) s
  -- beyond the demand: the table meets none of its own rows, and no entry after the list meets row 10
  pub laid : first (table_rows (table_after t l)) ≡ 0
  pub unmet : (e : Entry) → check n E s e ≢ 10

-- Both lists, and the two together.
pub record Both (n E : ℕ) (t₁ t₂ : List ℕ) (l₁ l₂ : List Entry) : Type 0 where
  -- "the tables after the two lists are equal, byte for byte, exactly when each process has the same accepted calls, with the same
  -- arguments in the same order, in both"
  pub same : (table_after t₁ l₁ ≡ table_after t₂ l₂)
      ↔ ((p : ℕ) → p < n → accepted_calls p l₁ (outcomes_on t₁ l₁) ≡ accepted_calls p l₂ (outcomes_on t₂ l₂))
  pub one : AfterList n E t₁ l₁ (run n E (fresh n) l₁)
  pub two : AfterList n E t₂ l₂ (run n E (fresh n) l₂)

abbrev pub TwoLists : Type 0
TwoLists = (n E : ℕ) (lent₁ lent₂ : List ℕ) (l₁ l₂ : List Entry)
    → (fresh_on lent₁ n E).returned ≡ 0
    → (fresh_on lent₂ n E).returned ≡ 0
    → Both n E (fresh_on lent₁ n E).table (fresh_on lent₂ n E).table l₁ l₂
