mod Grudges
