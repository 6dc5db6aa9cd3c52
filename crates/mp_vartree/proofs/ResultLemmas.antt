-- A fact that follows where a call succeeded, or where it failed.
use Rattle.std.proofs.Common.{◌≡◌, Result, Ok, Err, sym, subst}
use Rattle.std.specs.Result.{OnOk, OnErr}

pub on_ok : {X Y P Q : Type 0} (r : Result X Y) → (P → Q) → OnOk r P → OnOk r Q
on_ok (Ok x) f p = f p
on_ok (Err e) f p = p

pub on_err : {X Y P Q : Type 0} (r : Result X Y) → (P → Q) → OnErr r P → OnErr r Q
on_err (Ok x) f p = p
on_err (Err e) f p = f p

pub err_always : {X Y P : Type 0} (r : Result X Y) → P → OnErr r P
err_always (Ok x) p = tt
err_always (Err e) p = p

-- what holds of both that a call may leave
pub in_both : {X Y A : Type 0} (P : A → Type 0) (r : Result X Y) (new done old : A) → OnOk r (new ≡ done) → OnErr r (new ≡ old) → P done → P old → P new
in_both P (Ok x) new done old ok err p q = subst P (sym ok) p
in_both P (Err e) new done old ok err p q = subst P (sym err) q
