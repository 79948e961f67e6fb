-- The sections of a table whose rows are passed.
use mathlib.Core.Path.{◌≡◌, sym, ◌∙◌}
use Prim.Native.Nat.{ℕ, ◌<◌}
use native.Mathlib.Omega.{arith}
use lib.ListN.{length}
use Rattle.xdr.specs.Words.{word}
use Rattle.rules.specs.Records.{history}
use Rattle.rules.specs.Table.{start}
use Rattle.rules.specs.Calls.{table_rows}
use Rattle.records.proofs.Rows.{none_met}
use Rattle.tables.proofs.Laid.{Legal}
use Rattle.tables.proofs.WellLaid.{decoded_length}
use Rattle.tables.proofs.OneCall.{Valid, valid, table_legal}
use Rattle.tables.proofs.Outcomes.{Head, head}
use Rattle.layout.specs.declared.Table.{Table}
use Rattle.layout.specs.Tables.{state_of}

module _ (t : Table) where
  pub is_valid : Valid t.bytes.now
  is_valid = valid t.bytes.now t.small (none_met (table_rows t.bytes.now) tt t.laid.0)

  pub processes : length (state_of t) ≡ t.n
  processes = decoded_length (word t.bytes.now 0) (word t.bytes.now 1) t.bytes.now is_valid.is ∙ sym t.laid.1

  pub lawful : (p : ℕ) → Legal t.n t.e p (history (state_of t) p)
  lawful p = rw (t.laid.1, t.laid.2) (table_legal (word t.bytes.now 0) (word t.bytes.now 1) t.bytes.now is_valid.is p)

  pub section : (p : ℕ) → p < t.n → {at : ℕ} → at ≡ start t.e p → Head t.bytes.now p t.e at
  section p lt i = head t.bytes.now is_valid p (let e = t.laid.1 in omega arith) t.laid.2 i
