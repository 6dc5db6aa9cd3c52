-- A second mark changes nothing.
use Rattle.std.proofs.Common.{◌≡◌, refl, ap, List, [], ◌∷◌, true, false, Some, None, unwrap_or, cond}
use Rattle.mp_values.specs.declared.turn.Pending.{Pending}
use Rattle.mp_input.specs.Lines.{line_in, is_file_end, from_file_end, ended_behind, end_file_after_line}
use Rattle.mp_input.specs.Laws.{EndsOnce}

from_end_again : (text v : List Pending) → from_file_end text ≡ Some v → from_file_end v ≡ Some v
from_end_again [] v e = cc
from_end_again (x ∷ xs) v e =
    (elim (is_file_end x) as (λ b. is_file_end x ≡ b → cond b (Some (x ∷ xs)) (from_file_end xs) ≡ Some v → from_file_end v ≡ Some v) [
      | true ↦ λ is e. let same : x ∷ xs ≡ v = cc in rw (← same, is) refl
      | false ↦ λ is e. from_end_again xs v e
    ]) refl e

cut_once : (xs : List Pending) → unwrap_or (from_file_end (unwrap_or (from_file_end xs) xs)) (unwrap_or (from_file_end xs) xs) ≡ unwrap_or (from_file_end xs) xs
cut_once xs =
    (elim (from_file_end xs) as (λ o. from_file_end xs ≡ o → unwrap_or (from_file_end (unwrap_or o xs)) (unwrap_or o xs) ≡ unwrap_or o xs)
    [ None ↦ λ e. rw e refl | Some v ↦ λ e. rw (from_end_again xs v e) refl ]) refl

pub ends_once : EndsOnce
ends_once [] = refl
ends_once (x ∷ xs) =
    let ended = end_file_after_line xs in
    (elim (line_in x) as (λ o. line_in x ≡ o → x ∷ ended_behind (line_in x) (ended_behind o xs ended) (end_file_after_line (ended_behind o xs ended)) ≡ x ∷ ended_behind o xs ended)
    [ None ↦ λ e. rw e (ap (λ t. x ∷ t) (ends_once xs)) | Some p ↦ λ e. rw e (ap (λ t. x ∷ t) (cut_once xs)) ]) refl
