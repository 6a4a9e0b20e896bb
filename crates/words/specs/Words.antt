-- Numbers in bytes: document 01, 'Score and program', 'little endian throughout'.
use Rattle.std.specs.Prelude.{ℕ, zero, suc, ◌+◌, ◌*◌, ◌/◌, ◌%◌, ◌<◌, List, [], ◌∷◌, cond, leb, length, get_or}

-- the number in the k bytes from a place on, the lowest first
unfoldable pub little : ℕ → List ℕ → ℕ → ℕ
little zero s at = 0
little (suc k) s at = get_or s at 0 + 256 * little k s (at + 1)

-- the same, but 0 where not all k bytes are there, so that no place has to be refused
unfoldable pub number_at : ℕ → List ℕ → ℕ → ℕ
number_at k s at = cond (leb (at + k) (length s)) (little k s at) 0

-- the k bytes of a number, the lowest first: what `little` reads back (proofs/Bytes)
unfoldable pub bytes_of : ℕ → ℕ → List ℕ
bytes_of zero n = []
bytes_of (suc k) n = n % 256 ∷ bytes_of k (n / 256)

-- each entry is below 256: so it is in every slice of bytes, by its type
abbrev pub Bytes : List ℕ → Type 0
Bytes s = (i : ℕ) → get_or s i 0 < 256
