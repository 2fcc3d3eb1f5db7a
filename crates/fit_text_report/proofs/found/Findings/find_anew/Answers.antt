use Rattle.fit_text_report.proofs.CurrentFacts.{current_after}
use Rattle.fit_text_report.proofs.found.Findings.find_anew.Goals as goal

pub returns-then-may_be_long-clause-current : goal.returns-then-may_be_long-clause-current
returns-then-may_be_long-clause-current g c =
    current_after g.T.Finding.found_of c.find_in_place.new.self c.keep_one_long.new.self c.args.stream.now c.find_in_place.ensures.current
    c.keep_one_long.ensures.others
