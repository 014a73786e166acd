-- What the values of the enums in the code mean (RULES: forms).
use Rattle.rules.specs.Tables as tables
use Rattle.rules.specs.Tables.{sections, pages, larges}
use Rattle.mapping.specs.declared.form.Form as form
use Rattle.mapping.specs.declared.form.Form.TheVariants.{Sections, Pages, Larges}

-- forms 9: the form of a mapping that a value stands for
abbrev pub form_of : form.Form → tables.Form
form_of Sections = sections
form_of Pages = pages
form_of Larges = larges
