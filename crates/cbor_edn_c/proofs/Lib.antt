mod TextPlaces
