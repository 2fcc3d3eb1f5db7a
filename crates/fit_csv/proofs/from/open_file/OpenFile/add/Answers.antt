use Rattle.fit_csv.proofs.Common.{◌∙◌, sym, ap, subst, Global, Environment, Fits, known}
use Rattle.fit_profile.proofs.KnownFacts.{known_learned}
use Rattle.fit_csv.proofs.from.open_file.OpenFile.add.Goals as goal

pub push-requires-clause-known : goal.push-requires-clause-known
push-requires-clause-known c = c.env.ensures ∙ ap known (c.stream.ensures ∙ c.requires.same_records) ∙ known_learned c.args.self.now.records

pub push-requires-clause-fits : goal.push-requires-clause-fits
push-requires-clause-fits c = subst (λ (e : Environment Global). Fits e c.args.r.now) (sym (c.env.ensures ∙ ap known c.stream.ensures)) c.requires.fits
