use Rattle.example_sections.proofs.ExportLaws.{Lawful-export, export_takes}
use Rattle.example_sections.proofs.read.ReadExportReadable.is_lawful.Goals as goal

pub returns-clause-lawful : goal.returns-clause-lawful
returns-clause-lawful c = Lawful-export

pub returns-clause-some : goal.returns-clause-some
returns-clause-some c = export_takes
