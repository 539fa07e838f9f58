use Rattle.written_back.proofs.Movie.{init_written}
use Rattle.written_back.proofs.laws.movie_law.Goals as goal

pub returns : goal.returns
returns c = init_written
