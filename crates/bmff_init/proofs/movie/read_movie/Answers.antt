use Rattle.bmff_init.specs.declared.form.Form.TheVariants.{Classic}
use Rattle.bmff_init.proofs.PresentationLaws.{gives-presentation}
use Rattle.bmff_init.proofs.movie.read_movie.Goals as goal

pub returns-clause-presentation : goal.returns-clause-presentation
returns-clause-presentation c = gives-presentation Classic c.args.moov.now c.read_presentation.result c.read_presentation.ensures.value
