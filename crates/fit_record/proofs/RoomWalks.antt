-- The walks over the places of an environment, and the tests that are computed from them.
use Rattle.fit_record.proofs.Common.{refl, ◌≡◌, ℕ, ◌+◌, ◌-◌, ◌<◌, ◌≤◌, ◌≢◌, ◌⊎◌, inl, inr, Bool, true, false, List, length, take, get_or, sym, ap, ◌∙◌, subst}
use Rattle.fit_record.proofs.Common.{None, slice_set, cases_eq, or_from, le-leb, list_any_more, list_any_at}
use Rattle.fit_record.proofs.Common.{get_or-set_other, length-set, Defined, Environment, has_length_at, has_length, can_fill_from, finishes, can_complete_dev}
use Rattle.std.specs.Prelude.{Option}
use Rattle.std.proofs.lemmas.List.{get_or-set_same}

-- with the place of one local message type left out
module _ {A : Type 0} (places : List (Option (Defined A))) (local n other : ℕ) (below : other < length places) where
  abbrev others : List (Option (Defined A))
  others = slice_set places local None

  below_set : other < length others
  below_set = subst (λ m. other < m) (sym (length-set places local None)) below

  more : has_length (take other others) n ≡ false → has_length_at (get_or others other None) n ≡ false → has_length (take (other + 1) others) n ≡ false
  more before here = list_any_more (λ o. has_length_at o n) others other None below_set ∙ or_from (has_length (take other others) n) _ before here

  pub left_out : other ≡ local → has_length (take other others) n ≡ false → has_length (take (other + 1) others) n ≡ false
  left_out same before =
      more before (ap (λ o. has_length_at o n)
      (ap (λ i. get_or others i None) same ∙ get_or-set_same places local None None (subst (λ i. i < length places) same below)))

  pub not_here : has_length_at (get_or places other None) n ≡ false → has_length (take other others) n ≡ false → has_length (take (other + 1) others) n ≡ false
  not_here lacks before = go (cases_eq other local) where
    go : (other ≡ local) ⊎ (other ≢ local) → has_length (take (other + 1) others) n ≡ false
    go (inl same) = left_out same before
    go (inr differs) = more before (ap (λ o. has_length_at o n) (get_or-set_other places local other None None differs) ∙ lacks)

  pub here : other ≢ local → has_length_at (get_or places other None) n ≡ true → has_length others n ≡ true
  here differs has =
      list_any_at (λ o. has_length_at o n) others other None below_set
      (ap (λ o. has_length_at o n) (get_or-set_other places local other None None differs) ∙ has)

module _ {A : Type 0} (e : Environment A) (local t size room : ℕ) (enough : t + 1 ≤ room) (not_without : finishes e local t size (room - (t + 1)) ≡ false) where
  pub with_one : (r : Bool) → 3 ≤ room - (t + 1) → r ≡ can_fill_from e local size (room - (t + 1) - 3) → r ≡ can_complete_dev e local t size room
  with_one r l h =
      h ∙ sym (rw (le-leb (t + 1) room enough, not_without, le-leb 3 (room - (t + 1)) l) refl)
