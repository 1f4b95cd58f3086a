mod Fills
