-- Each definition in its place has its plan.
use Rattle.fit_profile.proofs.Common.{◌≡◌, ℕ, zero, suc, List, [], ◌∷◌, ◌++◌, ◌<◌, length}
use Rattle.fit_profile.proofs.Common.{get_or, refl, arith, reverse, subst, sym, ap, ◌∙◌, Option, Some, None, none-some}
use Rattle.fit_profile.proofs.Common.{Defined, MessageDef, Values, Record, Environment, empty_environment, known, description, option_and_then, same_Some}
use Rattle.std.specs.Prelude.{slice_index_or, ◌==◌, ◌&&◌, ◌||◌, not, IfSome, option_map}
use Rattle.std.specs.List.{list_any}
use Rattle.std.proofs.Common.{Bool, true, false, eqb-true, ap₂}
use Rattle.fit_record.specs.declared.definition.FieldDef.{FieldDef}
use Rattle.fit_profile.specs.Accumulated.{is_counter}
use Rattle.std.proofs.Common.{set, replicate}
use Rattle.fit_record.proofs.SixteenPlaces.{sixteen_places}
use Rattle.std.specs.Global.{Global}
use Rattle.fit_profile.specs.declared.plan.Plan.{Plan}
use Rattle.fit_profile.specs.Taken.{has_lone_fields}
use Rattle.fit_profile.specs.inner.Plans.{IsPlan, IsPlanned, ArePlanned}
use Rattle.fit_profile.proofs.KnownFacts.{known_learned}

-- where nothing is defined there is no plan
pub planned_none : (plan : Option Plan) (n local : ℕ) → plan ≡ None → IsPlanned plan (get_or (replicate n None) local None)
planned_none None zero local e = tt
planned_none None (suc n) zero e = tt
planned_none None (suc n) (suc local) e = planned_none None n local e
planned_none (Some plan) n local e = absurd (none-some plan (sym e))

pub planned_new : (plans : List (Option Plan)) (e : Environment Global) → ((local : ℕ) → slice_index_or plans local None ≡ None) → e ≡ empty_environment
    → ArePlanned plans e.places
planned_new plans e none empty local =
    subst (λ x. IsPlanned (slice_index_or plans local None) (slice_index_or x.places local None)) (sym empty)
    (planned_none (slice_index_or plans local None) 16 local (none local))

-- a definition and its plan take their places
pub planned_set : (plans : List (Option Plan)) (places : List (Option (Defined Global))) (local : ℕ) (plan : Plan) (p : Defined Global)
    → local < length plans → local < length places → ArePlanned plans places → IsPlan plan p.definition
    → ArePlanned (set plans local (Some plan)) (set places local (Some p))
planned_set [] places local plan p a b k s i = absurd (omega arith)
planned_set (q ∷ plans) [] local plan p a b k s i = absurd (omega arith)
planned_set (q ∷ plans) (m ∷ places) zero plan p a b k s zero = s
planned_set (q ∷ plans) (m ∷ places) zero plan p a b k s (suc i) = k (suc i)
planned_set (q ∷ plans) (m ∷ places) (suc local) plan p a b k s zero = k zero
planned_set (q ∷ plans) (m ∷ places) (suc local) plan p a b k s (suc i) =
    planned_set plans places local plan p (omega arith) (omega arith) (λ j. k (suc j)) s i

-- a definition has a place in which its plan is
pub has_place : (plans : List (Option Plan)) (local : ℕ) (plan : Plan) → Some plan ≡ slice_index_or plans local None → local < length plans
has_place [] local plan is = absurd (none-some plan (sym is))
has_place (q ∷ plans) zero plan is = omega arith
has_place (q ∷ plans) (suc local) plan is = let below = has_place plans local plan is in omega (arith, below)

-- another plan of a definition takes its place
planned_again : (plans : List (Option Plan)) (places : List (Option (Defined Global))) (local : ℕ) (plan : Plan) (p : Defined Global)
    → local < length plans → slice_index_or places local None ≡ Some p → ArePlanned plans places → IsPlan plan p.definition
    → ArePlanned (set plans local (Some plan)) places
planned_again [] places local plan p a at k s i = absurd (omega arith)
planned_again (q ∷ plans) places zero plan p a at k s zero = subst (IsPlanned (Some plan)) (sym at) s
planned_again (q ∷ plans) places zero plan p a at k s (suc i) = k (suc i)
planned_again (q ∷ plans) places (suc local) plan p a at k s zero = k zero
planned_again (q ∷ plans) [] (suc local) plan p a at k s (suc i) = absurd (none-some p at)
planned_again (q ∷ plans) (m ∷ places) (suc local) plan p a at k s (suc i) =
    planned_again plans places local plan p (omega arith) at (λ j. k (suc j)) s i

-- plans that are the same at each place
pub planned_same : (plans plans' : List (Option Plan)) (places : List (Option (Defined Global)))
    → ((local : ℕ) → slice_index_or plans' local None ≡ slice_index_or plans local None) → ArePlanned plans places → ArePlanned plans' places
planned_same plans plans' places same k local = subst (λ p. IsPlanned p (slice_index_or places local None)) (sym (same local)) (k local)

more-none : (n : ℕ) (plans : List (Option Plan)) (local : ℕ) → get_or (plans ++ replicate n None) local None ≡ get_or plans local None
more-none zero [] local = refl
more-none (suc n) [] zero = refl
more-none (suc n) [] (suc local) = more-none n [] local
more-none n (plan ∷ plans) zero = refl
more-none n (plan ∷ plans) (suc local) = more-none n plans local

-- a place that holds no plan may stand after the others
pub one_more : (plans : List (Option Plan)) (local : ℕ) → slice_index_or (plans ++ None ∷ []) local None ≡ slice_index_or plans local None
one_more plans local = more-none 1 plans local

-- the environment of a file's records has sixteen places
pub sixteen_of : (e : Environment Global) (records : List (Record Global)) → e ≡ known (reverse records) → length e.places ≡ 16
sixteen_of e records env = ap (λ x. length x.places) (env ∙ known_learned records) ∙ sixteen_places records

-- ---- what a plan says of counters

counting_bits : (tells describes a b : Bool) → tells ≡ (a || b) → describes ≡ a → (a ≡ true → b ≡ false) → (tells && not describes) ≡ b
counting_bits tells describes true b more is one = ap₂ (λ t d. t && not d) more is ∙ sym (one refl)
counting_bits tells describes false true more is one = ap₂ (λ t d. t && not d) more is
counting_bits tells describes false false more is one = ap₂ (λ t d. t && not d) more is

no_record : (global : ℕ) (any : Bool) → (global == 206) ≡ true → (global == 20 && any) ≡ false
no_record global any is = ap (λ g. g == 20 && any) (eqb-true global 206 is)

-- messages may have counters where they tell more than times and describe nothing
pub may_count_is : (plan : Plan) (q : Option (Defined Global)) → IsPlanned (Some plan) q
    → IfSome q (λ p. (plan.tells_more && not plan.describes) ≡ (p.definition.global == 20 && list_any (λ f. is_counter f.number) p.definition.fields))
may_count_is plan None planned = tt
may_count_is plan (Some p) planned =
    let d = p.definition in
    let any = list_any (λ (f : FieldDef). is_counter f.number) d.fields in
    counting_bits plan.tells_more plan.describes (d.global == 206) (d.global == 20 && any) planned.more planned.describes (no_record d.global any)

-- where there is no plan nothing is defined
pub none_planned : (q : Option (Defined Global)) (P : Defined Global → Type 0) → IsPlanned None q → IfSome q P
none_planned None P planned = tt
none_planned (Some p) P planned = absurd planned

-- ---- the plan of a definition in its place

pub of_definition : (q : Option Plan) (o : Option (Defined Global)) (plan : Plan) (d : MessageDef Global) → IsPlanned q o → Some plan ≡ q
    → Some d ≡ option_map (λ p. p.definition) o → IsPlan plan d
of_definition None o plan d planned is defined = absurd (none-some plan (sym is))
of_definition (Some q) None plan d planned is defined = absurd planned
of_definition (Some q) (Some p) plan d planned is defined =
    subst (λ x. IsPlan x d) (sym (same_Some plan q is)) (subst (IsPlan q) (sym (same_Some d p.definition defined)) planned)

-- ---- whether each field is one number, found out later

pub with_lone : (plan : Plan) (d : MessageDef Global) (lone : Bool) → IsPlan plan d → lone ≡ has_lone_fields d
    → IsPlan (record plan { has_lone_fields = Some lone }) d
with_lone plan d lone k is = record {
  more = k.more;
  describes = k.describes;
  lone = is;
  places = k.places;
  within = k.within;
  time = k.time;
  counters = k.counters;
  silent = k.silent;
}

-- the plan in its place, which now knows it
pub lone_kept : (plans : List (Option Plan)) (places : List (Option (Defined Global))) (local : ℕ) (plan : Plan) (p : Defined Global) (lone : Bool)
    → Some plan ≡ slice_index_or plans local None → slice_index_or places local None ≡ Some p → lone ≡ has_lone_fields p.definition
    → ArePlanned plans places → ArePlanned (set plans local (Some (record plan { has_lone_fields = Some lone }))) places
lone_kept plans places local plan p lone is at same k =
    planned_again plans places local (record plan { has_lone_fields = Some lone }) p (has_place plans local plan is) at k
    (with_lone plan p.definition lone
    (of_definition (slice_index_or plans local None) (slice_index_or places local None) plan p.definition (k local) is
    (ap (option_map (λ (x : Defined Global). x.definition)) (sym at))) same)

-- where there is no plan there is no definition
pub unplanned : (q : Option Plan) (o : Option (Defined Global)) → IsPlanned q o → None ≡ q → None ≡ option_map (λ (p : Defined Global). p.definition) o
unplanned None None planned none = refl
unplanned None (Some p) planned none = absurd planned
unplanned (Some plan) o planned none = absurd (none-some plan none)

not_true : (b : Bool) → not b ≡ true → b ≡ false
not_true true is = sym is
not_true false is = refl

-- a message by a plan that describes no developer field
pub describes_nothing : (q : Option Plan) (o : Option (Defined Global)) (plan : Plan) (v : Values Global) → IsPlanned q o → Some plan ≡ q
    → not plan.describes ≡ true → option_and_then (λ p. description p.definition v) o ≡ None
describes_nothing q None plan v planned is plain = refl
describes_nothing None (Some p) plan v planned is plain = absurd planned
describes_nothing (Some q) (Some p) plan v planned is plain =
    let other = sym planned.describes ∙ ap (λ (x : Plan). x.describes) (sym (same_Some plan q is)) ∙ not_true plan.describes plain in rw other refl
