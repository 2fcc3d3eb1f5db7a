-- The end of a file is after its last byte.
use Rattle.fit_chain.proofs.Common.{◌≡◌, inl, inr, ℕ, ◌<◌, List, [], ◌∷◌, ◌++◌, length, take, drop, Option, Some, None, refl, sym, ap, ◌∙◌, subst, arith}
use Rattle.fit_chain.proofs.Common.{append_assoc, length-append, append-nil, take-append-drop, length-take, take-append_seam, Header, FitFile, Record}
use Rattle.fit_chain.proofs.Common.{chain_bytes, Progress, at_header, at_data, HasCome, file_end, Least, ComesToRecords, ComesTo, Ended, progress_header, split}
use Rattle.fit_chain.proofs.OnePlace.{one_place}
use Rattle.fit_chain.proofs.Whole.{NoHeader, unfinished, no_header_in, no_header_before}
use Rattle.fit_chain.proofs.Gathered.{events_here, are_here, stands_with, ends_with}
use Rattle.fit_chain.proofs.Telling.{least_for}

-- that many bytes of the front of a list are the front
front_of : (k : ℕ) (piece more rest : List ℕ) → take k piece ≡ more ++ rest → take (length more) piece ≡ more
front_of k piece more rest e =
    ap (take (length more)) (sym (take-append-drop k piece) ∙ ap (λ t. t ++ drop k piece) e ∙ append_assoc more rest (drop k piece))
    ∙ take-append_seam more (rest ++ drop k piece)

fewer : (k : ℕ) (piece more : List ℕ) (c : ℕ) (rest : List ℕ) → take k piece ≡ more ++ c ∷ rest → length more < k
fewer k piece more c rest e = omega (arith, ap length e, length-append more (c ∷ rest), length-take k piece)

-- where fewer bytes of the piece don't have the files whole, they are whole with its last byte
nothing_after : {A : Type 0} (files gs : List (FitFile A)) (p piece : List ℕ) (k : ℕ) (front : List ℕ)
    → ComesTo files p → ((j : ℕ) → j < k → ComesTo files (p ++ take j piece)) → length files < length gs
    → HasCome gs (at_header front) (p ++ take k piece) → front ≡ []
nothing_after files gs p piece k [] here still more come = refl
nothing_after {A} files gs p piece k (c ∷ front) here still more come =
    elim (split p (chain_bytes gs) (take k piece) (c ∷ front) come.spelled) [
      | inl s ↦
          let j : ℕ = length s.more in
          let there : HasCome gs (at_header []) (p ++ take j piece) = record {
            files = come.files;
            next = unfinished A [] (λ h n rest fits is. cc);
            spelled = ap (λ t. p ++ t) (front_of k piece s.more (c ∷ front) s.beyond) ∙ sym s.second ∙ sym (append-nil (chain_bytes gs));
          } in
          let other = still j (fewer k piece s.more c front s.beyond) in
          let same = one_place files gs other.0 (at_header []) (p ++ take j piece) other.1 there in
          absurd (omega (arith, more, ap length same.0))
      | inr s ↦
          let before : HasCome gs (at_header (s.next ∷ s.more)) p = record {
            files = come.files;
            next = unfinished A (s.next ∷ s.more) (no_header_before (s.next ∷ s.more) (take k piece)
                (subst NoHeader s.beyond (no_header_in A (c ∷ front) come.next)));
            spelled = s.first;
          } in
          let same = one_place files gs here.0 (at_header (s.next ∷ s.more)) p here.1 before in
          absurd (omega (arith, more, ap length same.0))
    ]

header_alone : {A : Type 0} (g : Progress A) → progress_header g ≡ None → (front : List ℕ) × (g ≡ at_header front)
header_alone (at_header front) e = (front, refl)
header_alone (at_data h n records part) e = absurd cc

-- the end of a file, told by no fewer bytes
pub ends_file : {A : Type 0} (files : List (FitFile A)) (head : Option Header) (records : List (Record A)) (p piece : List ℕ) (k : ℕ)
    → ComesToRecords files head records p → Least A p piece k file_end
    → (h : Header) × (head ≡ Some h) × Ended files (record { header = h; records = records }) (p ++ take k piece)
ends_file {A} files head records p piece k s least =
    let told = least_for p piece k file_end least (events_here files head records p s) (are_here files head records p s) in
    let there = ends_with files head records p s (p ++ take k piece) told.0 in
    let f : FitFile A = record { header = there.0; records = records } in
    let alone = header_alone there.2.progress there.2.head_is in
    let come : HasCome (files ++ f ∷ []) (at_header alone.0) (p ++ take k piece) =
    subst (λ g. HasCome (files ++ f ∷ []) g (p ++ take k piece)) alone.1 there.2.come in
    let still : (j : ℕ) → j < k → ComesTo files (p ++ take j piece) = λ j below. let t = stands_with files head records p s (p ++ take j piece) (told.1 j below)
    in (t.progress, t.come) in
    let none = nothing_after files (files ++ f ∷ []) p piece k alone.0 (s.progress, s.come) still (omega (arith, length-append files (f ∷ []))) come in
    (there.0, there.1, subst (λ front. HasCome (files ++ f ∷ []) (at_header front) (p ++ take k piece)) none come)
