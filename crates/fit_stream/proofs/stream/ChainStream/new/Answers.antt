-- Each lane begins with the first line of its kind.
use Rattle.fit_stream.proofs.Common.{◌∙◌, sym, ap, subst, rules, LaneNow}
use Rattle.fit_stream.specs.inner.Kinds.{BeginsSo}
use Rattle.fit_stream.proofs.RowTexts.{first_line_text}
use Rattle.fit_stream.proofs.stream.ChainStream.new.Goals as goal
use Rattle.fit_stream.proofs.stream.ChainStream.new.Goals.{in-Check+in_ok-new-in-Check, in-Show+in_ok-new-in-Show, in-Table+in_ok-new-in-Table}
use Rattle.fit_stream.proofs.stream.ChainStream.new.Goals.{in-Rows+in_ok-new-in-Rows, in-Messages+in_ok-new-in-Messages}

pub invariant_of-result : goal.invariant_of-result
invariant_of-result c =
    elim c.match-kind.branch [
      | in-Check+in_ok-new-in-Check w ↦ search rules
      | in-Show+in_ok-new-in-Show w ↦ search rules
      | in-Table+in_ok-new-in-Table w ↦
          subst BeginsSo (sym w.lanes-is) (ap (λ (l : LaneNow). l.first) w.in_ok-new-in-Table.ensures ∙ sym first_line_text)
      | in-Rows+in_ok-new-in-Rows w ↦ search rules
      | in-Messages+in_ok-new-in-Messages w ↦ search rules
    ]
