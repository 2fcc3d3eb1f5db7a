use Rattle.fit_csv.proofs.PlacesOfRows.{rows-that-follow}
use Rattle.fit_csv.proofs.laws.rows_that_follow.Goals as goal

pub returns : goal.returns
returns c = rows-that-follow c.text_has_one_number.ensures
