use Rattle.ps_solve.specs.Searches.{played_by, start_of}
use Rattle.ps_solve.proofs.KeyRooms.{kept_key_room}
use Rattle.ps_solve.proofs.SearchedSpots.{level_solved}
use Rattle.ps_solve.proofs.numbered_search.NumberedSearch.solve.Goals as goal

pub returns : goal.returns
returns g c = record {
  solved = λ script entry session plays at.
      c.told.ensures script entry session c.args.limit
      (level_solved c.args.limit (played_by c.args.self.now.search) (start_of c.args.self.now.search)
      c.search-found.result c.search-found.ensures.answer script entry session plays at);
}

pub search-found-requires-room-M-Moves-2 : goal.search-found-requires-room-M-Moves-2
search-found-requires-room-M-Moves-2 g c = λ κs lives. kept_key_room _ c.args.self.now.narrow

pub search-found-requires-room-M-Key-Eq : goal.search-found-requires-room-M-Key-Eq
search-found-requires-room-M-Key-Eq g c = λ κs lives. kept_key_room _ c.args.self.now.narrow

pub search-found-requires-room-M-Key-PartialEq : goal.search-found-requires-room-M-Key-PartialEq
search-found-requires-room-M-Key-PartialEq g c = λ κs lives. kept_key_room _ c.args.self.now.narrow

pub search-found-requires-room-M-Key-Hash : goal.search-found-requires-room-M-Key-Hash
search-found-requires-room-M-Key-Hash g c = λ κs lives. kept_key_room _ c.args.self.now.narrow
