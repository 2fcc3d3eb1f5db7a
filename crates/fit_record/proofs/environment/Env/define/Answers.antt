use Rattle.fit_record.proofs.Common.{◌≡◌, length, set, sym, ap, ◌∙◌, subst, arith, length-map, dev_code, dev_defs, IsKept, AreKept, refl}
use Rattle.fit_record.proofs.KeptInPlaces.{kept_set}
use Rattle.std.proofs.lemmas.Result.{IfOk-from_err, MatchResult-from_err}
use Rattle.std.proofs.lemmas.Grind.{common_steps}
use Rattle.fit_record.proofs.environment.Env.define.Goals as goal

pub invariant_of-self : goal.invariant_of-self
invariant_of-self g c =
    let d = c.args.d in
    let n = c.body_length-length.result in
    let as_long : length c.self.inside.places ≡ length c.self.inside.lengths = omega (arith, c.set_place.ensures.length) in
    let kept : IsKept (record { definition = d; dev_codes = c.in_ok-dev_codes.dev_codes }) n = record {
      sound = record {
        fields = c.requires.fields;
        dev_fields = c.requires.dev_fields;
        codes =
            ap length c.in_ok-dev_codes.ensures.codes ∙ length-map (dev_defs d.dev) (dev_code c.args.self.now);
      };
      total = c.body_length-length.ensures.length;
      small = c.body_length-length.ensures.small;
    } in
    subst (λ places. AreKept places (set c.self.inside.lengths d.local n)) (sym c.set_place.ensures.place)
    (kept_set c.self.inside.places c.self.inside.lengths d.local _ n as_long c.self.invariant kept)

pub codes_for-requires : goal.codes_for-requires
codes_for-requires g c = assumption

pub returns-in_err-dev_codes-clause-ok : goal.returns-in_err-dev_codes-clause-ok
returns-in_err-dev_codes-clause-ok g c = IfOk-from_err c.from_residual.result _ c.from_residual.ensures.0

pub returns-in_err-dev_codes-clause-err : goal.returns-in_err-dev_codes-clause-err
returns-in_err-dev_codes-clause-err g c = MatchResult-from_err c.from_residual.result _ _ c.from_residual.ensures.0 (λ _. refl)

pub returns-in_err-dev_codes-clause-free : goal.returns-in_err-dev_codes-clause-free
returns-in_err-dev_codes-clause-free g c = λ none. let some = c.in_err-dev_codes.ensures.free none in cc

pub set_place-requires : goal.set_place-requires
set_place-requires g c = grind (arith, common_steps)
