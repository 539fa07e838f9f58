-- The words of the program.
use Rattle.std.specs.Prelude.{List, [], Result, Ok, Err, String, drop}
use Rattle.std.specs.declared.alloc.Global.{Global}
use Rattle.std.specs.declared.vec.IntoIter.{IntoIter}
use Rattle.std.specs.Vec.Iter.{into_iter_items}

-- The arguments behind the first, which is the program's name. There are none where an argument is no text.
abbrev pub words_in : {E : Type 0} → Result (IntoIter (String Global) Global) E
    → List (String Global)
words_in (Ok arguments) = drop 1 (into_iter_items arguments)
words_in (Err error) = []
