-- What the definitions compute.
use Rattle.std.proofs.Common.{◌≡◌, ℕ, zero, suc, refl}
use Rattle.mp_random.specs.Words.{RandomWords, low_run, high_run, halved_within, neighbours, unsown, sown, seeded, advanced, current}

-- the words n times further
after : ℕ → RandomWords → RandomWords
after zero random = random
after (suc n) random = advanced (after n random)

two_hundredth_word : current (after 200 (seeded 0)) ≡ 7325613
unfolding low_run high_run halved_within neighbours unsown sown after
two_hundredth_word = refl
