-- `add_from` has an empty body. Its borrow is opened, and closed at the longer list.
use Rattle.fit_history.proofs.Common.{List, [], ◌∷◌, ◌++◌, refl, Ura, Fn, Args, a_type, named, Val, vunit, vptr, inst_fn, SProp, id⊢, ftrue, flft, Memory}
use Rattle.fit_history.proofs.Common.{Routine, WpFn, Tables, Fun, tables, tables_of, WpFn-mono, Logic, ‵, raw, ◌⊛◌, ◌$◌, ◌∵◌, !, qed, move, keep, drop, use1}
use Rattle.fit_history.proofs.Common.{split, join, fsplit, fsplit3, fjoin, fjoin3, feq_i, suffices, frame, done, enter, of_opd, unit_lit, returns, alloc_all}
use Rattle.fit_history.proofs.Common.{pass_all, free_all, look_at, sets, RattleType, Valss, owns, param, layouts, yes, mut_vals, mut_Tells, shr_vals, shr_Tells}
use Rattle.fit_history.proofs.Common.{plain, types_at, opens, closes, Clauses, Ended, closing, Meets, triple_of, entered, says, Stays, stay_ref, stay_none_ref}
use Rattle.fit_history.proofs.Common.{AllGo, Goes-ref, Goes-none_ref, ends_at, walked, walk_Meets}
use Rattle.fit_history.specs.contracts.History.add_from.Key.{name as #self}
use Rattle.fit_history.specs.contracts.History as C
use Rattle.fit_history.specs.contracts.History.add_from as F
use Rattle.fit_history.proofs.History.add_from.Statement.{statement}
use Rattle.fit_history.proofs.History.add_from.Code as code

module _ (T S : RattleType) where
  abbrev X : RattleType
  X = param 0 T

  abbrev Y : RattleType
  Y = param 1 S

  abbrev Row : RattleType
  Row = C.the_row X

  abbrev args : Args
  args = layouts (a_type ∷ a_type ∷ []) (T, (S, tt))

  abbrev here : Fn
  here = inst_fn args code.function

  abbrev ended : Ended
  ended = F.ended T S

  abbrev stayed : Stays ended.signature.params ended.kept
  stayed = (stay_ref (0 ∷ []) tt (plain (λ _. Row)), (stay_none_ref (1 ∷ []) tt (plain (λ _. Y)) yes, tt))

  module _ {M : Type 1} {𝓤 : Ura M} (𝓛 : Logic 𝓤) (at_mem : Memory → SProp 𝓤) (run : Routine → Fun 𝓤) where
    open 𝓛 use {H}

    abbrev held : Clauses 𝓤 ended
    held = F.clauses T S 𝓛 at_mem run

    goes : AllGo 𝓛 4 ended.signature.params ended.kept stayed
    goes = (Goes-ref 𝓛 4 0 tt (plain (λ _. Row)), (Goes-none_ref 𝓛 4 (1 ∷ []) tt (plain (λ _. Y)) yes, tt))

    meets : (𝓣 : Tables 𝓤 H) → Meets 𝓛 ended.signature (WpFn 𝓤 H 𝓣.C 𝓣.Λ here) (closing 𝓛 ended held)
    meets 𝓣 =
        walk_Meets 𝓛 ended stayed goes held (WpFn 𝓤 H 𝓣.C 𝓣.Λ here) (WpFn-mono 𝓤 H 𝓛.laws 𝓣 here)
        (walked 𝓛 ended stayed held (WpFn 𝓤 H 𝓣.C 𝓣.Λ here) (λ κs. (mut_vals, (shr_vals, tt)))
        (λ κs. (mut_Tells (named 0) κs.0 Row, (shr_Tells (named 1) κs.1.0 Y, tt))) (λ κs qs bounds a value are.
        let b = a.0.ref_ptr.0 in let o = a.0.ref_ptr.1 in let history = a.0.now in
        let longer : Row.Denot = record { of = history.of; items = history.items ++ value ∷ [] } in
        let vs : Valss (types_at ended.signature.params κs) = (mut_vals a.0, (shr_vals a.1.0, tt)) in
        qed 𝓛 (((‵ (flft κs.0 qs.0) ⊛ ‵ (flft κs.1.0 qs.1.0) ⊛ ‵ (flft κs.1.1.0 qs.1.1.0) ⊛ ‵ (flft κs.1.1.1.0 qs.1.1.1.0) ⊛ ‵ ftrue)
        ⊛ ‵ (owns (types_at ended.signature.params κs) a vs))
        ∷ raw ((held κs a).requires value) ∷ []) ∵
        keep ! (0 ∷ []) $ split ! $ split ! $ move ! (2 ∷ []) $ fsplit ! $ fsplit3 ! $ drop ! $
        enter ! 𝓣.C 𝓣.Λ here (vptr b o ∷ vptr a.1.0.ref_ptr.0 a.1.0.ref_ptr.1 ∷ []) _ $
        alloc_all ! (λ l. pass_all ! refl ((tt, tt), ((tt, tt), tt)) $
        move ! (0 ∷ 1 ∷ 3 ∷ []) $ opens ! tt Row {h = history} b o (λ us.
        sets ! (of_opd ! (unit_lit !)) refl (tt, tt) $
        move ! (1 ∷ []) $ use1 𝓛 (‵ (Row.own_val longer us)) (id⊢ 𝓤 _) $ move ! (1 ∷ 0 ∷ []) $ closes ! tt Row longer us b o $
        returns ! (look_at ! 0 refl) $ free_all ! refl $ keep ! (0 ∷ 1 ∷ 2 ∷ 3 ∷ 4 ∷ []) $
        suffices ! _ (ends_at 𝓛 ended stayed held ((κs, qs, bounds, a, vs), value) vunit tt (longer, (tt, tt)) (tt, (tt, tt))) $ says ! refl $
        move ! (2 ∷ 4 ∷ []) $ join ! $ frame ! $ feq_i ! (List Val) (vptr b o ∷ []) (vptr b o ∷ []) refl $ fjoin3 ! $ fjoin ! $
        feq_i ! (List Val) (vunit ∷ []) (vunit ∷ []) refl $ move ! (1 ∷ 0 ∷ []) $ done !))))

pub add_from_spec : {M : Type 1} → statement M
unfolding tables_of
add_from_spec 𝓤 𝓛 𝓜 𝓡 wired T S of_T of_S =
    let 𝓣 : Tables 𝓤 𝓛.H = tables_of 𝓤 𝓛.H 𝓜 (tables 𝓤 𝓛.H 𝓜 𝓡 𝓡.env) in
    entered 𝓤 𝓛.H (triple_of 𝓛 (ended T S).signature (closing 𝓛 (ended T S) (held T S 𝓛 𝓜.mem 𝓡.returns))) 𝓣.C 𝓣.Λ (#self (args T S)) (here T S)
    (code.unfolded 𝓤 𝓛.H 𝓜 𝓡 wired (T, (S, tt))) (meets T S 𝓛 𝓜.mem 𝓡.returns 𝓣)
