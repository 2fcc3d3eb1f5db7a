-- How many files have ended, by the fields, is the number of those that are whole in the bytes fed.
use Rattle.fit_decode.proofs.Common.{◌≡◌, ℕ, List, length, None, ap, ◌∙◌, subst, sym, FitFile, Inside, Section, Progress, HasCome, Fields}
use Rattle.fit_decode.proofs.Common.{HoldsAt, IsSoundDecoder, fields_inside, one_place, Latched, refusal_of, seen_in}
use Rattle.fit_decode.specs.declared.section.Section.TheVariants.{Header}
use Rattle.fit_decode.specs.Answers.{Seen}

module _ {A : Type 0} (d : Fields A) (bytes : List ℕ) (fs : List (FitFile A)) (g : Progress A) (come : HasCome fs g bytes) where
  ended_at : (s : Section) → HoldsAt s d bytes → refusal_of s ≡ None → d.stage.files ≡ length fs
  ended_at (Latched reason) k fresh = absurd cc
  ended_at Header k fresh = k.counted ∙ ap length (one_place k.files fs _ g bytes k.come come).0
  ended_at s k fresh = k.counted ∙ ap length (one_place k.files fs _ g bytes k.come come).0

pub files_ended : {A : Type 0} (d : Inside A) → IsSoundDecoder d → (old : Seen) → seen_in d ≡ old
    → old.refusal ≡ None
    → (fs : List (FitFile A)) (g : Progress A) → HasCome fs g old.bytes → d.stage.files ≡ length fs
files_ended d k old seen fresh fs g come =
    ended_at (fields_inside d) d.history.items fs g (subst (HasCome fs g) (sym (ap (λ (s : Seen). s.bytes) seen)) come) d.stage.section k.holds
    (ap (λ (s : Seen). s.refusal) seen ∙ fresh)
