-- What the numbers of a form become when it is multiplied or divided.
use Rattle.std.specs.Prelude.{ℤ, pos, ◌*ℤ◌}
use Rattle.mp_scaled.specs.Round.{round}

-- n a / b
abbrev pub ratio_times : ℤ → ℤ → ℤ → ℤ
ratio_times a b n = round (n *ℤ a) b

-- f times n, where f is in units of 2^-28
abbrev pub times_fraction : ℤ → ℤ → ℤ
times_fraction f n = ratio_times f (pos 268435456) n

-- s times n, where s is in units of 2^-16
abbrev pub times_scaled : ℤ → ℤ → ℤ
times_scaled s n = ratio_times s (pos 65536) n

-- n over s, where s is in units of 2^-16
abbrev pub over_scaled : ℤ → ℤ → ℤ
over_scaled s n = ratio_times (pos 65536) s n
