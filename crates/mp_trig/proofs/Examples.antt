-- What the definitions compute.
use Rattle.std.proofs.Common.{◌≡◌, pos, negsuc, Ok, Err, refl}
use Rattle.mp_trig.specs.Roots.{whole_root_within, nearest_root, square_root_of, pyth_add_of, pyth_sub_of}
use Rattle.mp_trig.specs.Logs.{log_entry, doublings_within, fitting_within, log_within, mlog_of, lessened_times, exp_after, mexp_of}
use Rattle.mp_trig.specs.Sines.{angle_entry, sine_after, sine_of, cosine_of}
use Rattle.mp_trig.specs.Directions.{shrunk_within, grown_within, angle_after, direction_angle}
use Rattle.mp_trig.specs.declared.fault.TrigFault.TheVariants.{OutOfDomain, Overflow}

root_of_two : square_root_of (pos 131072) ≡ Ok (pos 92682)
unfolding whole_root_within nearest_root
root_of_two = refl

three_and_four : pyth_add_of (pos 3) (negsuc 3) ≡ Ok (pos 5)
unfolding whole_root_within nearest_root
three_and_four = refl

just_too_long : pyth_add_of (pos 2147483647) (pos 46341) ≡ Err Overflow
unfolding whole_root_within nearest_root
just_too_long = refl

five_and_four : pyth_sub_of (negsuc 4) (pos 4) ≡ Ok (pos 3)
unfolding whole_root_within nearest_root
five_and_four = refl

logarithm_of_two : mlog_of (pos 131072) ≡ Ok (pos 11629080)
unfolding log_entry doublings_within fitting_within log_within
logarithm_of_two = refl

logarithm_of_a_unit : mlog_of (pos 1) ≡ Ok (negsuc 186065278)
unfolding log_entry doublings_within fitting_within log_within
logarithm_of_a_unit = refl

exponential_of_that : mexp_of (pos 11629080) ≡ Ok (pos 131072)
unfolding log_entry lessened_times exp_after
exponential_of_that = refl

sine_of_30_degrees : sine_of (pos 31457280) ≡ pos 134217731
unfolding angle_entry sine_after whole_root_within nearest_root
sine_of_30_degrees = refl

cosine_of_180_degrees : cosine_of (negsuc 188743679) ≡ negsuc 268435455
unfolding angle_entry sine_after whole_root_within nearest_root
cosine_of_180_degrees = refl

down_and_left : direction_angle (negsuc 0) (negsuc 0) ≡ Ok (negsuc 141557760)
unfolding angle_entry shrunk_within grown_within angle_after
down_and_left = refl

no_direction : direction_angle (pos 0) (pos 0) ≡ Err OutOfDomain
unfolding angle_entry shrunk_within grown_within angle_after
no_direction = refl
