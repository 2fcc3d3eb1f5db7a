-- A history has no bytes and owns nothing, so what it owns is the same wherever it goes.
use denote.RattleType.{RattleType}
use denote.Param.Send.{IsSend}
use Rattle.fit_history.specs.contracts.History.{the_row}

pub send : (T : RattleType) → IsSend (the_row T)
send T = record { owned = λ h vs. ((λ vss. (tt, ((λ uss. (tt, tt)), tt))), tt); leaving = λ k d w. tt }
