use Rattle.fit_record.proofs.DefinitionFronts.{front_can_complete}
use Rattle.fit_record.proofs.DefinitionParts.{fields_can_complete, dev_can_complete, dev_fields_can_complete}
use Rattle.fit_record.proofs.laws.definitions_are_tested.Goals as goal

pub returns-clause-front : goal.returns-clause-front
returns-clause-front g c = front_can_complete

pub returns-clause-fields : goal.returns-clause-fields
returns-clause-fields g c = fields_can_complete

pub returns-clause-dev_number : goal.returns-clause-dev_number
returns-clause-dev_number g c = dev_can_complete

pub returns-clause-dev_fields : goal.returns-clause-dev_fields
returns-clause-dev_fields g c = dev_fields_can_complete
