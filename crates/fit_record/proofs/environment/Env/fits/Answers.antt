use Rattle.fit_record.proofs.Common.{Data, Define, ◌≡◌, Some, IfErr, subst, sym, first_fault}
use Rattle.fit_record.proofs.NoFaultWhereFits.{refused_by}
use Rattle.fit_record.proofs.RecordLengths.{ok_more, length_of_definition, length_of_data}
use Rattle.fit_record.proofs.environment.Env.fits.Goals as goal

pub returns-in-Define-clause-ok : goal.returns-in-Define-clause-ok
returns-in-Define-clause-ok g c =
    ok_more c.definition_fits.result (λ n h. length_of_definition c.args.self.now c.args.r.now c.in-Define.d n c.in-Define.is h.0 h.1)
    c.definition_fits.ensures.ok

pub returns-in-Values-clause-ok : goal.returns-in-Values-clause-ok
returns-in-Values-clause-ok g c =
    ok_more c.data_fits.result (λ n h. length_of_data c.args.self.now c.args.r.now c.in-Values.v n c.in-Values.is h) c.data_fits.ensures.ok

pub returns-in-Values-clause-refused : goal.returns-in-Values-clause-refused
returns-in-Values-clause-refused g c = refused_by c.args.self.now c.args.r.now (Data c.in-Values.v) c.data_fits.result c.in-Values.is c.data_fits.ensures.err

pub returns-in-Define-clause-err : goal.returns-in-Define-clause-err
returns-in-Define-clause-err g c =
    subst (λ r. IfErr c.definition_fits.result (λ fault. first_fault c.args.self.now r ≡ Some fault)) (sym c.in-Define.is) c.definition_fits.ensures.err

pub returns-in-Define-clause-refused : goal.returns-in-Define-clause-refused
returns-in-Define-clause-refused g c =
    refused_by c.args.self.now c.args.r.now (Define c.in-Define.d) c.definition_fits.result c.in-Define.is c.definition_fits.ensures.err

pub returns-in-Values-clause-err : goal.returns-in-Values-clause-err
returns-in-Values-clause-err g c =
    subst (λ r. IfErr c.data_fits.result (λ fault. first_fault c.args.self.now r ≡ Some fault)) (sym c.in-Values.is) c.data_fits.ensures.err
