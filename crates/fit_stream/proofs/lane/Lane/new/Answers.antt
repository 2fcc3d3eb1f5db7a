-- The sink has the first line.
use Rattle.fit_stream.proofs.Common.{◌≡◌, ◌∙◌, [], ◌++◌, None, ap, sym, subst, append-nil, Global, chain_limit, IsViable, Stands, ToldSoFar}
use Rattle.fit_decode.proofs.FileRead.{nothing_viable}
use Rattle.fit_report.proofs.Outcomes.{stands_before}
use Rattle.fit_stream.proofs.Flowing.{kept_first}
use Rattle.fit_stream.proofs.lane.Lane.new.Goals as goal

pub invariant_of-result : goal.invariant_of-result
invariant_of-result g c =
    let none = ap (λ (t : ToldSoFar). t.seen.bytes) c.new-2.ensures in
    let held = c.put_all.new.sink.held in
    let first = c.args.first.now in
    let line : c.note.new.self.items ≡ first = c.note.ensures ∙ ap (λ b. b ++ first) c.new-line.ensures in
    record {
      goes_on = λ fresh. record {
        fresh = ap (λ (t : ToldSoFar). t.seen.refusal) c.new-2.ensures;
        fed = none ∙ sym c.new-3.ensures;
        viable = subst (IsViable Global chain_limit) (sym none) (nothing_viable Global);
        kept = first;
        is_kept = kept_first c.new-sink.result.held held c.new.result.items first (ap (λ s. s.held) c.new-sink.ensures) c.new.ensures.items
            c.in_default.ensures.ok;
        told = [];
        joined = ap (λ b. b ++ first) c.new-4.ensures ∙ sym line ∙ sym (append-nil c.note.new.self.items);
        stands = subst (Stands g.R.Report.has_heard g.R.Report.line c.args.reporter c.new-2.result.seen.bytes [] held held)
            (sym (ap (λ (t : ToldSoFar). t.written) c.new-2.ensures))
            (stands_before g.R.Report.has_heard g.R.Report.line c.args.reporter c.new-2.result.seen.bytes held none c.requires);
      };
      stopped = λ f was. absurd cc;
      may_go_on = λ f was. absurd cc;
    }

pub returns : goal.returns
returns g c =
    let first = c.args.first.now in
    let line : c.note.new.self.items ≡ first = c.note.ensures ∙ ap (λ b. b ++ first) c.new-line.ensures in
    λ i. record { first = line i; flow = record { bytes = c.new-3.ensures i; text = c.new-4.ensures i; fault = None } }
