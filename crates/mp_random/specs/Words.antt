-- The random words: 55 numbers below 2^28, renewed by taking words that stand apart from one another.
-- After Knuth, METAFONT: The Program, part 8 (random numbers). Every constant is this project's choice.
use Rattle.std.specs.Prelude.{ℕ, zero, suc, ◌+◌, ◌-◌, ◌*◌, ◌/◌, ◌%◌, List, true, false, nat_lt, cond, slice_set, slice_index, replicate}
use Rattle.mp_random.specs.declared.random.TheConstants.{WORDS, MODULUS}

-- the words, and how many of them are left to be answered before the next renewal: the first so many, from the last to
-- the first
pub record RandomWords : Type 0 where
  pub words : List ℕ
  pub left : ℕ

-- a - b, and 2^28 more where that is negative
abbrev pub difference : ℕ → ℕ → ℕ
difference a b = cond (nat_lt a b) (a + MODULUS - b) (a - b)

-- the words with word k less word m in the place of word k
abbrev pub replaced : ℕ → ℕ → List ℕ → List ℕ
replaced k m words = slice_set words k (difference (slice_index words k) (slice_index words m))

-- each of the first n words less the word 31 places on
unfoldable pub low_run : ℕ → List ℕ → List ℕ
low_run zero words = words
low_run (suc n) words = replaced n (n + 31) (low_run n words)

-- each of the n words from word 24 on less the word 24 places before
unfoldable pub high_run : ℕ → List ℕ → List ℕ
high_run zero words = words
high_run (suc n) words = replaced (n + 24) n (high_run n words)

abbrev pub renewed : List ℕ → List ℕ
renewed words = high_run 31 (low_run 24 words)

-- a value, halved until it is below 2^28; as many turns as its own value are more than enough
unfoldable pub halved_within : ℕ → ℕ → ℕ
halved_within zero value = value
halved_within (suc turns) value =
    elim (nat_lt value MODULUS) [ true ↦ value | false ↦ halved_within turns (value / 2) ]

abbrev pub halved : ℕ → ℕ
halved value = halved_within value value

-- two neighbours of the sequence in which each number is the difference of the two before it
pub record Neighbours : Type 0 where
  pub older : ℕ
  pub newer : ℕ

abbrev pub next_neighbours : Neighbours → Neighbours
next_neighbours pair = record { older = pair.newer; newer = difference pair.older pair.newer }

-- the n-th pair of the sequence that begins with that number and 1
unfoldable pub neighbours : ℕ → ℕ → Neighbours
neighbours zero first = record { older = first; newer = 1 }
neighbours (suc n) first = next_neighbours (neighbours n first)

-- before anything is sown
unfoldable pub unsown : List ℕ
unsown = replicate WORDS 0

-- the first n numbers behind the beginning, 21 places apart
unfoldable pub sown : ℕ → ℕ → List ℕ
sown zero first = unsown
sown (suc n) first = slice_set (sown n first) (21 * n % WORDS) (neighbours n first).newer

-- what a seed gives: the sequence sown, and three renewals
abbrev pub seeded : ℕ → RandomWords
seeded value = record { words = renewed (renewed (renewed (sown WORDS (halved value)))); left = WORDS - 1 }

-- one word further, with a renewal where no word is left
abbrev pub advanced : RandomWords → RandomWords
advanced random =
    cond (nat_lt 0 random.left)
    (record { words = random.words; left = random.left - 1 })
    (record { words = renewed random.words; left = WORDS - 1 })

-- the word that was answered last: the one behind those that are left
abbrev pub current : RandomWords → ℕ
current random = slice_index random.words random.left
