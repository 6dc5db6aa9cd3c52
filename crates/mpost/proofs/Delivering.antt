-- On writing: what is written behind other lines is behind them in the sink.
use Rattle.std.proofs.Common.{◌≡◌, ℕ, List, [], ◌++◌, Option, Some, None, refl, ◌∙◌, ap, subst, append_assoc, inl, inr, take}
use Rattle.std.specs.Option.{option_map}
use Rattle.mp_files.specs.Counts.{Rose}
use Rattle.mp_files.specs.Outside.{Gained}
use Rattle.mp_files.specs.Seen.{SinkSeen}
use Rattle.mpost.specs.Delivery.{Tried}

gained_both : (before : Option (List ℕ)) (xs ys : List ℕ) → option_map (λ zs. zs ++ ys) (option_map (λ zs. zs ++ xs) before) ≡ option_map (λ zs. zs ++ (xs ++ ys)) before
gained_both None xs ys = refl
gained_both (Some zs) xs ys = ap Some (append_assoc zs xs ys)

gained_behind : (before between now : Option (List ℕ)) (xs ys : List ℕ) → Gained before between xs → Gained between now ys → Gained before now (xs ++ ys)
gained_behind before between now xs ys first more = more ∙ ap (option_map (λ zs. zs ++ ys)) first ∙ gained_both before xs ys

-- a line that was tried behind lines that were written
pub tried_behind : (lines line : List ℕ) (before between now : SinkSeen) → between.faults ≡ before.faults → Gained before.bytes between.bytes lines → Tried [] line between now → Tried lines line before now
tried_behind lines line before between now same first (inl all) = inl (all.0 ∙ same, gained_behind before.bytes between.bytes now.bytes lines line first all.1)
tried_behind lines line before between now same first (inr part) =
    let P : ℕ → Type 0 = λ n. Rose n now.faults in
    inr (subst P same part.0, (part.1.0, gained_behind before.bytes between.bytes now.bytes lines (take part.1.0 line) first part.1.1))
