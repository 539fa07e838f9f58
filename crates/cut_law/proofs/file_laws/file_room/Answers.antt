use Rattle.cut_law.proofs.FileRooms.{file-rooms}
use Rattle.cut_law.proofs.file_laws.file_room.Goals as goal

pub returns : goal.returns
returns c = λ blobs k st held bytes parts e short idle h. file-rooms blobs k st held bytes parts e short idle h
