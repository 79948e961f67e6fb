-- XDR unsigned integers (RFC 4506) in a list of bytes; document 01 calls them words. Word i stands in bytes 4 * i to
-- 4 * i + 3, most significant first.
use Rattle.std.specs.Prelude.{List, [], ◌∷◌, ℕ, zero, suc, ◌+◌, ◌*◌, ◌/◌, ◌%◌, get_or, set}

-- word i of the bytes
unfoldable pub word : List ℕ → ℕ → ℕ
word s i = get_or s (4 * i) 0 * 16777216 + get_or s (4 * i + 1) 0 * 65536 + get_or s (4 * i + 2) 0 * 256 + get_or s (4 * i + 3) 0

-- the number of 32 bits whose bytes are those of v in the opposite order
abbrev pub turned : ℕ → ℕ
turned v = v % 256 * 16777216 + v / 256 % 256 * 65536 + v / 65536 % 256 * 256 + v / 16777216

-- the bytes of words
abbrev pub bytes : List ℕ → List ℕ
bytes [] = []
bytes (w ∷ ws) = w / 16777216 % 256 ∷ w / 65536 % 256 ∷ w / 256 % 256 ∷ w % 256 ∷ bytes ws

-- the words of bytes; fewer than four at the end are no word
abbrev pub words : List ℕ → List ℕ
words [] = []
words (a ∷ []) = []
words (a ∷ b ∷ []) = []
words (a ∷ b ∷ c ∷ []) = []
words (a ∷ b ∷ c ∷ d ∷ s) = (a * 16777216 + b * 65536 + c * 256 + d) ∷ words s

-- the bytes with v as word i
unfoldable pub put_word : List ℕ → ℕ → ℕ → List ℕ
put_word s i v =
    set (set (set (set s (4 * i) (v / 16777216 % 256)) (4 * i + 1) (v / 65536 % 256)) (4 * i + 2) (v / 256 % 256)) (4 * i + 3) (v % 256)

-- the bytes with these words from word i on
unfoldable pub put_words : List ℕ → ℕ → List ℕ → List ℕ
put_words s i [] = s
put_words s i (v ∷ vs) = put_words (put_word s i v) (suc i) vs

-- the bytes with f i as word i for each i below p
unfoldable pub put_each : List ℕ → (ℕ → ℕ) → ℕ → List ℕ
put_each s f zero = s
put_each s f (suc p) = put_word (put_each s f p) p (f p)
