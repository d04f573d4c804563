mod GamesRead
