-- The failure line, computed: every process starts at its latest permitted position, and as long as there is an orphan its process is
-- lowered to the latest saved position before it. What document 01 says of the line is IsFailureLine in Lines.antt, and that alone has to
-- be believed: `latest` (theorems) shows that this computes it.
use Rattle.std.specs.Prelude.{Bool, false, cond, ◌||◌, List, [], ◌∷◌, map, ℕ, zero, suc, ◌+◌, length}
use Rattle.rules.specs.Records.{Event, History, State, history}
use Rattle.rules.specs.Lines.{upto, orphan, failed, is_checkpoint}

-- the latest saved position
abbrev pub last_saved : History → ℕ
last_saved [] = 0
last_saved (e ∷ h) = cond (is_checkpoint e) (suc (length h)) (last_saved h)

-- the latest permitted position
abbrev pub top : Bool → History → ℕ
top down h = cond down (last_saved h) (length h)

-- a test holds for some record
abbrev pub any : (Event → Bool) → History → Bool
any o [] = false
any o (e ∷ h) = o e || any o h

-- what was before the first record for which a test holds
abbrev pub before : (Event → Bool) → History → History
before o [] = []
before o (e ∷ h) = cond (o e || any o h) (before o h) (e ∷ h)

-- position t of history h, lowered to the latest saved position before the first record for which a test holds, if there is one
abbrev pub lowered : (Event → Bool) → History → ℕ → ℕ
lowered o h t = cond (any o (upto t h)) (last_saved (before o (upto t h))) t

-- f i x for each element x, at index i
abbrev pub each_from : {A : Type 0} → ℕ → (ℕ → A → ℕ) → List A → List ℕ
each_from i f [] = []
each_from i f (x ∷ xs) = f i x ∷ each_from (suc i) f xs

-- every process lowered once, to before its first orphan
unfoldable pub round : State → List ℕ → List ℕ
round s cut = each_from 0 (λ p t. lowered (orphan s cut p) (history s p) t) cut

unfoldable pub rounds : ℕ → State → List ℕ → List ℕ
rounds zero s cut = cut
rounds (suc k) s cut = rounds k s (round s cut)

abbrev pub sum : List ℕ → ℕ
sum [] = 0
sum (x ∷ xs) = x + sum xs

-- Each round but the last lowers some process, so as many rounds as there are records are enough.
unfoldable pub failure_line : ℕ → State → List ℕ
failure_line mask s = rounds (sum (map length s)) s (each_from 0 (λ p h. top (failed mask p) h) s)
