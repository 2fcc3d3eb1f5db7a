-- What bytes that go on with a file tell of the places before its end, after whole files.
use Rattle.fit_chain.proofs.Common.{◌≡◌, inl, inr, ℕ, suc, ◌<◌, List, [], ◌∷◌, ◌++◌, length, take, drop, get_or, sym, ap, ◌∙◌, subst, arith, append_assoc}
use Rattle.fit_chain.proofs.Common.{length-append, AllByRecursion, append-nil, append_cancel_left, take-append-drop, drop-cons, IsBytes, IsBytes-append}
use Rattle.fit_chain.proofs.Common.{IsBytes-front, Reason, FitFile, file_bytes, chain_bytes, IsWellFormed, IsFile, IsChain, IsViable, chain_limit, Progress}
use Rattle.fit_chain.proofs.Common.{at_header, progress_bytes, HasCome, IsRefused, ComesTo, Ended, split}
use Rattle.fit_chain.proofs.Completions.{all_append, chain_bytes-append}
use Rattle.fit_chain.proofs.OnePlace.{no_file}
use Rattle.fit_chain.proofs.Whole.{unfinished}

-- a list, parted at a place
pub at_place : (all : List ℕ) (place : ℕ) → place < length all → all ≡ take place all ++ get_or all place 0 ∷ drop (suc place) all
at_place all place within = sym (take-append-drop place all) ∙ ap (λ t. take place all ++ t) (drop-cons all place 0 within)

pub are_of_bytes : {A : Type 0} (limit : ℕ) (bytes : List ℕ) → IsViable A limit bytes → IsBytes bytes
are_of_bytes limit bytes (more, fs, are, chain) = IsBytes-front bytes more are

last_well : {A : Type 0} (files : List (FitFile A)) (f : FitFile A) → AllByRecursion IsWellFormed (files ++ f ∷ []) → IsWellFormed f
last_well [] f each = each.0
last_well (g ∷ files) f each = last_well files f each.1

module _ {A : Type 0} (files : List (FitFile A)) (base : List ℕ) (come : HasCome files (at_header []) base) where
  pub base_is : base ≡ chain_bytes files
  base_is = come.spelled ∙ append-nil (chain_bytes files)

  -- the bytes of the file that ended after them
  pub next_bytes : (f : FitFile A) (got : List ℕ) → Ended files f (base ++ got) → IsFile f got
  next_bytes f got ended = (
    last_well files f ended.files,
    append_cancel_left (chain_bytes files) got (file_bytes f)
        (ap (λ t. t ++ got) (sym base_is) ∙ ended.spelled ∙ append-nil (chain_bytes (files ++ f ∷ [])) ∙ chain_bytes-append files f),
  )

  -- the bytes of a file that isn't whole
  beyond : (p : List ℕ) (g : Progress A) → HasCome files g (base ++ p) → p ≡ progress_bytes g
  beyond p g there = append_cancel_left (chain_bytes files) p (progress_bytes g) (ap (λ t. t ++ p) (sym base_is) ∙ there.spelled)

  module _ (f : FitFile A) (b x : List ℕ) (are : IsBytes b) (file : IsFile f b) (chain : (gs : List (FitFile A)) × IsChain chain_limit gs (base ++ b)) where
    -- the file isn't whole where no file is
    pub none_whole : (p rest : List ℕ) → ComesTo files (base ++ p) → p ≡ b ++ rest → ⊥
    none_whole p rest comes e = no_file comes.0 f rest comes.1.next file.0 (sym (beyond p comes.0 comes.1) ∙ e ∙ ap (λ t. t ++ rest) file.1)

    pub shorter : (got y : List ℕ) → ComesTo files (base ++ got) → b ++ x ≡ got ++ y → length got < length b
    shorter got y comes e =
        elim (split b got x y e) [
          | inl s ↦ absurd (none_whole got s.more comes s.second)
          | inr s ↦ omega (arith, ap length s.first, length-append got (s.next ∷ s.more))
        ]

    -- no byte of the file is refused, nor one after it
    never_refused : (p y : List ℕ) (c : ℕ) (reason : Reason) → ComesTo files (base ++ p) → IsRefused A chain_limit (base ++ p) c reason → b ++ x ≡ p ++ c ∷ y
        → ⊥
    never_refused p y c reason comes why e =
        elim (split b p x (c ∷ y) e) [
          | inl s ↦ none_whole p s.more comes s.second
          | inr s ↦
              let same : c ≡ s.next = let h = s.beyond in cc in
              let front : b ≡ p ++ c ∷ s.more = s.first ∙ ap (λ n. p ++ n ∷ s.more) (sym same) in
              let all : base ++ b ≡ ((base ++ p) ++ c ∷ []) ++ s.more =
              ap (λ t. base ++ t) front ∙ sym (append_assoc base p (c ∷ s.more)) ∙ sym (append_assoc (base ++ p) (c ∷ []) s.more) in
              why.refused (
                s.more,
                chain.0,
                subst IsBytes all (IsBytes-append base b (IsBytes-front base p (are_of_bytes chain_limit (base ++ p) why.viable)) are),
                subst (IsChain chain_limit chain.0) all chain.1,
              )
        ]

    pub refused_byte : (got y : List ℕ) (place : ℕ) (reason : Reason) → place < length (base ++ got) → ComesTo files (take place (base ++ got))
        → IsRefused A chain_limit (take place (base ++ got)) (get_or (base ++ got) place 0) reason → b ++ x ≡ got ++ y → ⊥
    refused_byte got y place reason within comes why e =
        let all : List ℕ = base ++ got in
        let c : ℕ = get_or all place 0 in
        let rest : List ℕ = drop (suc place) all in
        let p : List ℕ = progress_bytes comes.0 in
        let front : take place all ≡ base ++ p = comes.1.spelled ∙ ap (λ t. t ++ p) (sym base_is) in
        let parted : got ≡ p ++ c ∷ rest =
        append_cancel_left base got (p ++ c ∷ rest) (at_place all place within ∙ ap (λ t. t ++ c ∷ rest) front ∙ append_assoc base p (c ∷ rest)) in
        never_refused p (rest ++ y) c reason (subst (ComesTo files) front comes) (subst (λ t. IsRefused A chain_limit t c reason) front why)
        (e ∙ ap (λ t. t ++ y) parted ∙ append_assoc p (c ∷ rest) y)

    -- the files end with the file's bytes
    pub file_ends : Ended files f (base ++ b)
    file_ends = record {
      files = all_append files f come.files file.0;
      next = unfinished A [] (λ h n rest fits is. cc);
      spelled = ap (λ t. t ++ b) base_is ∙ ap (λ t. chain_bytes files ++ t) file.1 ∙ sym (chain_bytes-append files f)
          ∙ sym (append-nil (chain_bytes (files ++ f ∷ [])));
    }
