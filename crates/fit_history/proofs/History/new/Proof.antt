-- `new` makes a value of no bytes, whose list is empty.
use Rattle.fit_history.proofs.Common.{[], ◌∷◌, refl, Ura, Fn, Args, a_type, Val, vstruct, vcons, vnil, inst_fn, SProp, Memory, Routine, WpFn, Tables, Fun}
use Rattle.fit_history.proofs.Common.{tables, tables_of, WpFn-mono, Logic, ‵, raw, ◌⊛◌, ◌$◌, ◌∵◌, !, qed, move, keep, split, suffices, done, enter, returns}
use Rattle.fit_history.proofs.Common.{and_then, no_more, alloc_all, pass_all, free_all, look_at, get, sets, RattleType, owns, types_at, param, layouts, nothing}
use Rattle.fit_history.proofs.Common.{Clauses, Ended, closing, Meets, triple_of, entered, says, ends_at, walked, walk_Meets}
use types.Part.{agg}
use denote.Shadow.{pure_i}
use denote.Triple.Entry.{alive}
use Rattle.fit_history.specs.contracts.History.new.Key.{name as #self}
use Rattle.fit_history.specs.contracts.History as C
use Rattle.fit_history.specs.contracts.History.new as F
use Rattle.fit_history.proofs.History.new.Statement.{statement}
use Rattle.fit_history.proofs.History.new.Code as code

-- the marker, and the struct round it
abbrev marker : Val
marker = vstruct vnil

abbrev history : Val
history = vstruct (vcons marker vnil)

module _ (T : RattleType) where
  abbrev args : Args
  args = layouts (a_type ∷ []) (T, tt)

  abbrev here : Fn
  here = inst_fn args code.function

  abbrev ended : Ended
  ended = F.ended T

  abbrev empty : (C.the_row (param 0 T)).Denot
  empty = record { of = record {}; items = [] }

  module _ {M : Type 1} {𝓤 : Ura M} (𝓛 : Logic 𝓤) (at_mem : Memory → SProp 𝓤) (run : Routine → Fun 𝓤) where
    open 𝓛 use {H}

    abbrev held : Clauses 𝓤 ended
    held = F.clauses T 𝓛 at_mem run

    meets : (𝓣 : Tables 𝓤 H) → Meets 𝓛 ended.signature (WpFn 𝓤 H 𝓣.C 𝓣.Λ here) (closing 𝓛 ended held)
    meets 𝓣 =
        walk_Meets 𝓛 ended tt tt held (WpFn 𝓤 H 𝓣.C 𝓣.Λ here) (WpFn-mono 𝓤 H 𝓛.laws 𝓣 here)
        (walked 𝓛 ended tt held (WpFn 𝓤 H 𝓣.C 𝓣.Λ here) (λ κs. tt) (λ κs. tt) (λ κs qs bounds a g _.
        qed 𝓛 ((raw (alive 𝓛 ended.signature κs qs) ⊛ ‵ (owns (types_at ended.signature.params κs) a tt)) ∷ raw ((held κs a).requires g) ∷ []) ∵
        keep ! (0 ∷ []) $ split ! $ keep ! (0 ∷ []) $
        enter ! 𝓣.C 𝓣.Λ here [] _ $ alloc_all ! (λ l. pass_all ! refl tt $
        sets ! (agg ! (no_more !)) refl (tt, tt) $
        sets ! (agg ! (and_then ! (get ! refl) (no_more !))) refl (tt, (tt, tt)) $
        returns ! (look_at ! 0 refl) $ free_all ! refl $
        pure_i ! ((C.the_row (param 0 T)).own_val empty (history ∷ [])) ((λ vss. (tt, ((λ uss. (tt, tt)), tt))), tt)
        (((marker ∷ [], tt), (refl, ((tt, (refl, tt)), tt))), tt) $
        suffices ! _ (ends_at 𝓛 ended tt held ((κs, qs, bounds, a, tt), g) history empty tt tt) $ says ! refl $
        nothing ! $ move ! (2 ∷ 0 ∷ 1 ∷ []) $ done !)))

pub new_spec : {M : Type 1} → statement M
unfolding tables_of
new_spec 𝓤 𝓛 𝓜 𝓡 wired T laws =
    let 𝓣 : Tables 𝓤 𝓛.H = tables_of 𝓤 𝓛.H 𝓜 (tables 𝓤 𝓛.H 𝓜 𝓡 𝓡.env) in
    entered 𝓤 𝓛.H (triple_of 𝓛 (ended T).signature (closing 𝓛 (ended T) (held T 𝓛 𝓜.mem 𝓡.returns))) 𝓣.C 𝓣.Λ (#self (args T)) (here T)
    (code.unfolded 𝓤 𝓛.H 𝓜 𝓡 wired (T, tt)) (meets T 𝓛 𝓜.mem 𝓡.returns 𝓣)
