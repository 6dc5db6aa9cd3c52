use Rattle.std.proofs.Common.{ℕ, ◌≡◌, ◌≤◌, ◌<◌, ◌-◌, ◌∙◌, refl, List, [], ◌++◌, Option, Some, None, length, take, drop, sym, ap, arith}
use Rattle.std.proofs.lemmas.List.{append-nil, append_assoc, take_all, take-append-drop, length-drop}
use Rattle.std.proofs.Math.Seq.{take-append_seam}
use Rattle.std.proofs.KnownBytes.{Appends-trans}
use Rattle.std.specs.Io.KnownBytes.{Appends, Consumes, IsAtEnd}
use Rattle.mp_files.specs.Streams.{IsStartOf, Leads}
use Rattle.mp_files.specs.declared.outside.TheConstants.{MOST_FETCHED}

-- a list that is followed by nothing is its own start
take_whole : (n : ℕ) (all bytes rest : List ℕ) → all ≡ bytes ++ rest → rest ≡ [] → length bytes ≤ n → bytes ≡ take n all
take_whole n all bytes rest read ended within =
    let seam : bytes ++ rest ≡ bytes = rw ended (append-nil bytes) in
    let same : all ≡ bytes = cc in
    rw same (sym (take_all n bytes within))

-- a list of n elements is the start of what it begins
take_front : (n : ℕ) (all bytes rest : List ℕ) → all ≡ bytes ++ rest → length bytes ≡ n → bytes ≡ take n all
take_front n all bytes rest read full = rw (read, ← full) (sym (take-append_seam bytes rest))

-- what was read before an empty read, which is the end, is all that a reader had
pub start_at_end : (before now after : Option (List ℕ)) (bytes buf : List ℕ) (n : ℕ) → Consumes before now bytes → Consumes now after (take n buf) × (n ≡ 0 → 0 < length buf → IsAtEnd after) → n ≡ 0 → 0 < length buf → length bytes ≤ MOST_FETCHED → IsStartOf before bytes
start_at_end None now after bytes buf n read empty none room within = tt
start_at_end (Some all) None after bytes buf n read empty none room within = absurd read
start_at_end (Some all) (Some rest) None bytes buf n read empty none room within = absurd empty.0
start_at_end (Some all) (Some rest) (Some last) bytes buf n read empty none room within =
    let ended : last ≡ [] = empty.1 none room in
    let nothing : take n buf ≡ [] = rw none refl in
    let gone : rest ≡ [] = empty.0 ∙ rw (nothing, ended) refl in
    take_whole MOST_FETCHED all bytes rest read gone within

-- so many bytes are the start
pub start_when_full : (before now : Option (List ℕ)) (bytes : List ℕ) → Consumes before now bytes → length bytes ≡ MOST_FETCHED → IsStartOf before bytes
start_when_full None now bytes read full = tt
start_when_full (Some all) None bytes read full = absurd read
start_when_full (Some all) (Some rest) bytes read full = take_front MOST_FETCHED all bytes rest read full

-- a write that takes n bytes of the rest leads further
pub leads_on : (a b c : Option (List ℕ)) (rest piece : List ℕ) (n : ℕ) → Leads a b rest piece → Appends b c (take n rest) → Leads a c (take (length rest - n) (drop n rest)) piece
leads_on a b c rest piece n before more =
    let within : length (drop n rest) ≤ length rest - n = omega (arith, length-drop n rest) in
    let same : take (length rest - n) (drop n rest) ≡ drop n rest = take_all (length rest - n) (drop n rest) within in
    rw same
    (record {
      taken = before.taken ++ take n rest;
      split = before.split ∙ ap (λ l. before.taken ++ l) (sym (take-append-drop n rest)) ∙ sym (append_assoc before.taken (take n rest) (drop n rest));
      grown = Appends-trans a b c before.taken (take n rest) before.grown more;
    })
