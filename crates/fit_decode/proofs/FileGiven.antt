-- What the reading of a file tells of an input that a file's bytes begin, after the files that were read.
use Rattle.fit_decode.proofs.Common.{◌≡◌, inl, inr, ℕ, ◌≤◌, List, [], ◌∷◌, ◌++◌, length, Some, None, Ok, Err, sym, ap, ◌∙◌, subst, arith, append_assoc}
use Rattle.fit_decode.proofs.Common.{length-append, Consumes, append_cancel_left, IsBytes, FitFile, IsFile, IsChain, chain_limit, Fault, Truncated, Read}
use Rattle.fit_decode.proofs.Common.{at_header, progress_bytes, HasCome, GivesFile, ComesTo, Ended, FileTold, LastPiece, base_is, file_ends, next_bytes}
use Rattle.fit_decode.proofs.Common.{none_whole, refused_byte, shorter}
use Rattle.std.proofs.Common.{Bool, Option, Result}
use Rattle.fit_record.proofs.OneFile.{one_file}
use Rattle.fit_chain.specs.declared.event.Fault.TheVariants.{Refused, NoMemory}
use Rattle.fit_decode.specs.Answers.{Seen}
use Rattle.fit_step.proofs.Splits.{split}

module _ {A : Type 0} (files : List (FitFile A)) (base : List ℕ) (come : HasCome files (at_header []) base)
    (f : FitFile A) (b x : List ℕ) (are : IsBytes b) (file : IsFile f b) (chain : (gs : List (FitFile A)) × IsChain chain_limit gs (base ++ b)) where
  -- the last piece goes no further than the file
  none_after : (got y : List ℕ) → LastPiece files (base ++ got) → b ++ x ≡ got ++ y → length (base ++ got) ≤ length (base ++ b)
  none_after got y last e =
      let p : List ℕ = progress_bytes last.come.0 in
      let front : last.before ≡ base ++ p = last.come.1.spelled ∙ ap (λ t. t ++ p) (sym (base_is files base come)) in
      let parted : got ≡ p ++ last.piece = append_cancel_left base got (p ++ last.piece)
      (last.parts ∙ ap (λ t. t ++ last.piece) front ∙ append_assoc base p last.piece) in
      let comes : ComesTo files (base ++ p) = subst (ComesTo files) front last.come in
      elim (split b p x (last.piece ++ y) (e ∙ ap (λ t. t ++ y) parted ∙ append_assoc p last.piece y)) [
        | inl s ↦ absurd (none_whole files base come f b x are file chain p s.more comes s.second)
        | inr s ↦
            let all : base ++ b ≡ last.before ++ s.next ∷ s.more =
            ap (λ t. base ++ t) s.first ∙ sym (append_assoc base p (s.next ∷ s.more)) ∙ ap (λ t. t ++ s.next ∷ s.more) (sym front) in
            let short = last.within f (s.next ∷ s.more) (subst (Ended files f) all (file_ends files base come f b x are file chain)) in
            omega (arith, short, ap length all, length-append last.before (s.next ∷ s.more), ap length last.parts, length-append last.before last.piece)
      ]

  pub given : (got : List ℕ) (has : Option (List ℕ)) (failed : Bool) (new : Seen) (result : Result (FitFile A) Fault) → Consumes (Some (b ++ x)) has got
      → FileTold files (base ++ got) has failed new result
      → GivesFile f (length (base ++ b)) x (record { before = Some (b ++ x); after = has; failed = failed }) result
  given got None failed new result eats told = absurd eats
  given got (Some y) failed new (Ok g) eats told =
      let one = one_file f g b got x y file (next_bytes files base come g got told.1) eats in
      (sym one.0, ap Some (sym (append_cancel_left b x y (eats ∙ ap (λ t. t ++ y) (sym one.1)))))
  given got (Some y) failed new (Err (Refused place reason)) eats (within, near, comes, why, good) =
      refused_byte files base come f b x are file chain got y place reason within comes why eats
  given got (Some y) failed new (Err (Truncated place)) eats (is, end, comes, after, good) =
      omega (arith, shorter files base come f b x are file chain got y comes eats, ap length eats, length-append b x, length-append got y, ap length end)
  given got (Some y) failed new (Err (NoMemory used)) eats (is, last, good) = omega (arith, is, none_after got y last eats)
  given got (Some y) failed new (Err (Read place)) eats (is, bad, comes, after) =
      (bad, omega (arith, is, shorter files base come f b x are file chain got y comes eats, length-append base got, length-append base b))
