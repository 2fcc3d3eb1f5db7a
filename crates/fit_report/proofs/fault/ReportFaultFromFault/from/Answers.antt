use Rattle.fit_report.proofs.fault.ReportFaultFromFault.from.Goals as goal

pub returns-in-NoMemory : goal.returns-in-NoMemory
returns-in-NoMemory c = cc
