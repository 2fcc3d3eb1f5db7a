-- Blocks by themselves.
use Rattle.std.proofs.Common.{◌≡◌, ◌∙◌, ℕ, Bool, true, false, List, refl, sym, ap, subst}
use Rattle.std.proofs.lemmas.Bool.{and_from}
use Rattle.std.specs.Prelude.{◌&&◌, Option, Some, None}
use Rattle.std.specs.List.{list_all}
use Rattle.fit_record.specs.Faults.{or_else}
use Rattle.fit_from_messages.specs.declared.fault.BlockReason.{BlockReason}
use Rattle.fit_from_messages.specs.declared.misfit.Misfit.{Misfit}
use Rattle.fit_from_messages.specs.Alone.{why_no_kind, why_no_lone_definition, why_no_parts}
use Rattle.fit_from_messages.specs.Parts.{byte_at, dev_entries, field_entries, size_fits}
use Rattle.fit_from_messages.specs.inner.Definitions.{IsReadable}
use Rattle.fit_from_messages.specs.Misfits.{IsMisfitBlock}

-- what is found after the kind is right
pub after_kind : (n : ℕ) (block : List ℕ) (found first : Option BlockReason) (misfit : Misfit) → found ≡ why_no_kind n block → found ≡ None
    → IsMisfitBlock first misfit → IsMisfitBlock (or_else (why_no_kind n block) first) misfit
after_kind n block found first misfit is none h = subst (λ o. IsMisfitBlock (or_else o first) misfit) (sym none ∙ is) h

pub stands_after : (n : ℕ) (block : List ℕ) (found first : Option BlockReason) → found ≡ why_no_kind n block → found ≡ None → first ≡ None
    → or_else (why_no_kind n block) first ≡ None
stands_after n block found first is none h = ap (λ o. or_else o first) (sym is ∙ none) ∙ h

pub parts_stand : (block : List ℕ) → IsReadable block → list_all (λ e. size_fits (byte_at 7 e) e) (dev_entries block) ≡ true → why_no_parts block ≡ None
parts_stand block r fit =
    let both : (list_all (λ e. size_fits (byte_at 7 e) e) (field_entries block) && list_all (λ e. size_fits (byte_at 7 e) e) (dev_entries block)) ≡ true =
    and_from _ _ r.fields fit in
    rw (r.local, r.architecture, r.entries, both) refl
